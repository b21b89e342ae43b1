-- The memory shelf: which bytes stand at which place. Assumes nothing.
use Rattle.std.specs.Prelude.{◌≡◌, ℕ, ◌+◌, ◌*◌, ◌<◌, Bool, false, if◌then◌else◌, ◌&&◌, List, [], ◌++◌, length, take, drop, replicate, Ok, vec_items, ◌==◌, nat_le, nat_lt}
use Rattle.shelf.specs.declared.memory.MemoryShelf.{MemoryShelf}
use Rattle.shelf.specs.Meaning.{Answer, first_of, Meaning, out_of_range}
use Rattle.units.specs.declared.place.Place.{Place}
use Rattle.units.specs.Units.{unit_at, with_unit, zeros}

-- which unit of the bytes stands at a place, where a disk has so many rows
abbrev pub number_of : ℕ → Place → ℕ
number_of rows p = p.disk * rows + p.row

-- the bytes at a place: disk after disk, and of each disk row after row; none out of range
abbrev pub bytes_at : ℕ → ℕ → List ℕ → Place → List ℕ
bytes_at disks rows bs p = if nat_lt p.disk disks && nat_lt p.row rows then unit_at bs (number_of rows p) else []

-- a shelf over these bytes, which marks no disk
abbrev pub memory : ℕ → ℕ → List ℕ → Meaning
memory disks rows bs = record { disks = disks; rows = rows; bytes = bytes_at disks rows bs; mark = λ _. false }

-- a memory shelf of these numbers over these bytes; one with no disks where they do not fit
abbrev pub new_memory : ℕ → ℕ → List ℕ → Meaning
new_memory disks rows bs =
    if nat_le disks 32 && (nat_le rows 4096 && length bs == disks * rows * 512) then memory disks rows bs else memory 0 0 bs

-- what a memory shelf means: its numbers over its bytes
abbrev pub kept : MemoryShelf → Meaning
kept s = memory s.extent.disks s.extent.rows (vec_items s.bytes)

-- ---- what its calls answer and leave: it never faults in range

-- an access of n bytes is in range
abbrev pub reached : MemoryShelf → Place → ℕ → Bool
reached s p n = nat_lt p.disk s.extent.disks && (nat_lt p.row s.extent.rows && n == 512)

-- the answer to a read or write of n bytes
abbrev pub access_answer : MemoryShelf → Place → ℕ → Answer
access_answer s p n = if reached s p n then Ok tt else out_of_range p

-- the answer to a renewal
abbrev pub renewal_answer : MemoryShelf → ℕ → Answer
renewal_answer s d = if nat_lt d s.extent.disks then Ok tt else out_of_range (first_of d)

-- all bytes after a write: another unit at the place, in range
abbrev pub after_write : MemoryShelf → Place → List ℕ → List ℕ
after_write s p us =
    if reached s p (length us) then with_unit (vec_items s.bytes) (number_of s.extent.rows p) us else vec_items s.bytes

-- the bytes with n units of zeros from unit i on; `with_part` is of one unit, and its lemmas are of 512 bytes
abbrev pub with_zeros : List ℕ → ℕ → ℕ → List ℕ
with_zeros bs i n = take (i * 512) bs ++ (replicate (n * 512) 0 ++ drop (i * 512 + n * 512) bs)

-- all bytes after a renewal: zeros all over the disk, in range
abbrev pub after_renewal : MemoryShelf → ℕ → List ℕ
after_renewal s d =
    if nat_lt d s.extent.disks then with_zeros (vec_items s.bytes) (d * s.extent.rows) s.extent.rows else vec_items s.bytes

-- every place of the disk holds zeros
abbrev pub Zeroed : Meaning → ℕ → Type 0
Zeroed m d = (p : Place) → p.disk ≡ d → p.row < m.rows → m.bytes p ≡ zeros

-- what the memory shelf says of its calls: each answer goes by the range alone; a read changes nothing
abbrev pub Reading : MemoryShelf → Place → List ℕ → Answer → List ℕ → MemoryShelf → Type 0
Reading s p before a after t = (a ≡ access_answer s p (length before)) × (t ≡ s)

-- a write changes the place's unit
abbrev pub Writing : MemoryShelf → Place → List ℕ → Answer → MemoryShelf → Type 0
Writing s p bs a t = (a ≡ access_answer s p (length bs)) × (vec_items t.bytes ≡ after_write s p bs)

-- a renewal leaves zeros
abbrev pub Renewing : MemoryShelf → ℕ → Answer → MemoryShelf → Type 0
Renewing s d a t = (a ≡ renewal_answer s d) × (vec_items t.bytes ≡ after_renewal s d) × (d < s.extent.disks → Zeroed (kept t) d)
