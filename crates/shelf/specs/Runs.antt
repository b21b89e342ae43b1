-- A shelf over whole lists of calls: what its places hold and which disks are marked, told by the calls and their answers alone. Assumes nothing.
use Rattle.std.specs.Prelude.{◌≡◌, ℕ, Bool, true, false, if◌then◌else◌, ◌&&◌, List, [], ◌∷◌, Some, None, Ok, Err, Option, ◌==◌}
use Rattle.shelf.specs.Meaning.{Answer, Meaning, Reads, Renews, Writes}
use Rattle.units.specs.declared.place.Place.{Place}

-- a call with its answer; a read with the buffer before and after
pub data Call : Type 0 where
  read : Place → List ℕ → Answer → List ℕ → Call
  write : Place → List ℕ → Answer → Call
  renew : ℕ → Answer → Call

-- the call goes by its relation
abbrev pub Goes : Meaning → Call → Meaning → Type 0
Goes m (read p before a after) m' = Reads m p before a after m'
Goes m (write p bs a) m' = Writes m p bs a m'
Goes m (renew d a) m' = Renews m d a m'

-- the meaning m becomes m' by these calls, the last one first
abbrev pub Runs : Meaning → List Call → Meaning → Type 0
Runs m [] m' = m' ≡ m
Runs m (c ∷ cs) m' = (n : Meaning) × (Runs m cs n × Goes n c m')

-- what is known of the place's bytes after a write there
abbrev pub after_write_there : Answer → List ℕ → Option (List ℕ) → Option (List ℕ)
after_write_there (Ok _) bs before = Some bs
after_write_there (Err f) bs before = if f.code == 1 then before else None

-- what is known of the bytes on a disk after its renewal
abbrev pub after_renewal_there : Answer → Option (List ℕ) → Option (List ℕ)
after_renewal_there (Ok _) before = None
after_renewal_there (Err f) before = before

-- the bytes at a place: those at first, or those of the last served write there; unknown since a write there faulted with another code than 1, or the disk was renewed
abbrev pub known : (Place → List ℕ) → Place → List Call → Option (List ℕ)
known first p [] = Some (first p)
known first p (read q before a after ∷ cs) = known first p cs
known first p (write q bs a ∷ cs) =
    if p.disk == q.disk && p.row == q.row then after_write_there a bs (known first p cs) else known first p cs
known first p (renew e a ∷ cs) = if p.disk == e then after_renewal_there a (known first p cs) else known first p cs

-- a disk's mark after an answer of its own: set by a fault other than code 1
abbrev pub marked_by : Answer → Bool → Bool
marked_by (Ok _) before = before
marked_by (Err f) before = if f.code == 1 then before else true

-- a disk's mark after the answer to its renewal: cleared where it is served
abbrev pub marked_by_renewal : Answer → Bool → Bool
marked_by_renewal (Ok _) before = false
marked_by_renewal (Err f) before = marked_by (Err f) before

-- a disk is marked when one of its calls faulted with another code than 1 since its last served renewal, or it was marked at first and not renewed
abbrev pub marked_after : (ℕ → Bool) → ℕ → List Call → Bool
marked_after first d [] = first d
marked_after first d (read q before a after ∷ cs) = if d == q.disk then marked_by a (marked_after first d cs) else marked_after first d cs
marked_after first d (write q bs a ∷ cs) = if d == q.disk then marked_by a (marked_after first d cs) else marked_after first d cs
marked_after first d (renew e a ∷ cs) = if d == e then marked_by_renewal a (marked_after first d cs) else marked_after first d cs

-- what the calls tell of a shelf afterwards: what is known of a place stands there, and a disk is marked as they say
pub record Told (m : Meaning) (cs : List Call) (m' : Meaning) : Type 0 where
  pub disks : m'.disks ≡ m.disks
  pub rows : m'.rows ≡ m.rows
  pub bytes : (p : Place) (bs : List ℕ) → known m.bytes p cs ≡ Some bs → m'.bytes p ≡ bs
  pub marks : (d : ℕ) → m'.mark d ≡ marked_after m.mark d cs

-- every shelf, whichever calls fault, is as its calls tell, and a served read hands out what is known of its place
pub record Remembers : Type 0 where
  pub told : (m m' : Meaning) (cs : List Call) → Runs m cs m' → Told m cs m'
  pub handed_out : (m m' : Meaning) (cs : List Call) (p : Place) (before after bs : List ℕ)
      → Runs m (read p before (Ok tt) after ∷ cs) m' → known m.bytes p cs ≡ Some bs → after ≡ bs
