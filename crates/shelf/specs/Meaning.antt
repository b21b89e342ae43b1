-- What a shelf means, and what each of its calls answers and does to that meaning. Assumes nothing.
use Rattle.std.specs.Prelude.{◌≡◌, ℕ, ◌<◌, ◌≤◌, Bool, true, false, ◌&&◌, List, length, Err, Result, MatchResult, ◌≢◌, nat_lt}
use Rattle.denial.specs.declared.fault.ShelfFault.{ShelfFault}
use Rattle.units.specs.declared.place.Place.{Place}
use Rattle.units.specs.Units.{IsUnit}

-- a number of disks and of rows, the bytes at each place, and a mark for each disk
pub record Meaning : Type 0 where
  pub disks : ℕ
  pub rows : ℕ
  pub bytes : Place → List ℕ
  pub mark : ℕ → Bool

-- every shelf has at most 32 disks, and a unit of 512 bytes at each place
pub record Lawful (m : Meaning) : Type 0 where
  pub few : m.disks ≤ 32
  pub units : (p : Place) → p.disk < m.disks → p.row < m.rows → IsUnit (m.bytes p)

-- ---- what is asked, and how it is answered

-- an access in range of these disks and rows, with n bytes handed over, which are to be a unit; the two numbers stand apart, as in a meaning
pub record Within (disks rows : ℕ) (p : Place) (n : ℕ) : Type 0 where
  pub disk : p.disk < disks
  pub row : p.row < rows
  pub unit : n ≡ 512

-- a disk's first place, which stands for the disk in what a renewal answers
abbrev pub first_of : ℕ → Place
first_of d = record { disk = d; row = 0 }

-- what a call answers: served, or a fault
abbrev pub Answer : Type 0
Answer = Result (Unit {0}) ShelfFault

-- the fault with this code at a place
abbrev pub fault_at : ℕ → Place → ShelfFault
fault_at c p = record { code = c; disk = p.disk; row = p.row }

-- the answer out of range: code 1
abbrev pub out_of_range : Place → Answer
out_of_range p = Err (fault_at 1 p)

-- a fault of the disk: a code from 2 to 8, and the disk and the row that were asked for
pub record DiskFault (p : Place) (f : ShelfFault) : Type 0 where
  pub low : 2 ≤ f.code
  pub high : f.code ≤ 8
  pub disk : f.disk ≡ p.disk
  pub row : f.row ≡ p.row

-- ---- what changes, and that nothing else does

-- the disk is marked
pub record Marked (m : Meaning) (d : ℕ) (m' : Meaning) : Type 0 where
  pub disks : m'.disks ≡ m.disks
  pub rows : m'.rows ≡ m.rows
  pub bytes : (q : Place) → m'.bytes q ≡ m.bytes q
  pub there : m'.mark d ≡ true
  pub others : (e : ℕ) → (e ≢ d) → m'.mark e ≡ m.mark e

-- the place holds these bytes
pub record Stored (m : Meaning) (p : Place) (bs : List ℕ) (m' : Meaning) : Type 0 where
  pub disks : m'.disks ≡ m.disks
  pub rows : m'.rows ≡ m.rows
  pub there : m'.bytes p ≡ bs
  pub elsewhere : (q : Place) → q ≢ p → m'.bytes q ≡ m.bytes q
  pub marks : (e : ℕ) → m'.mark e ≡ m.mark e

-- the disk is marked, and the place may hold any unit
pub record Spoilt (m : Meaning) (p : Place) (m' : Meaning) : Type 0 where
  pub disks : m'.disks ≡ m.disks
  pub rows : m'.rows ≡ m.rows
  pub elsewhere : (q : Place) → q ≢ p → m'.bytes q ≡ m.bytes q
  pub there : m'.mark p.disk ≡ true
  pub others : (e : ℕ) → (e ≢ p.disk) → m'.mark e ≡ m.mark e

-- the disk's mark is cleared, and its places may hold any units
pub record Renewed (m : Meaning) (d : ℕ) (m' : Meaning) : Type 0 where
  pub disks : m'.disks ≡ m.disks
  pub rows : m'.rows ≡ m.rows
  pub elsewhere : (q : Place) → q.disk ≢ d → m'.bytes q ≡ m.bytes q
  pub there : m'.mark d ≡ false
  pub others : (e : ℕ) → (e ≢ d) → m'.mark e ≡ m.mark e

-- ---- the calls

-- a read hands out the place's bytes; on a fault the bytes handed over stay, and the disk is marked
pub record Reads (m : Meaning) (p : Place) (before : List ℕ) (answer : Answer) (after : List ℕ) (m' : Meaning) : Type 0 where
  pub inside : Within m.disks m.rows p (length before) → MatchResult answer
      (λ _. (after ≡ m.bytes p) × (m' ≡ m))
      (λ f. DiskFault p f × (after ≡ before) × Marked m p.disk m')
  pub outside : (¬ Within m.disks m.rows p (length before))
      → (answer ≡ out_of_range p) × (after ≡ before) × (m' ≡ m)

-- a write puts the bytes there; on a fault the disk is marked, and the place may hold any unit
pub record Writes (m : Meaning) (p : Place) (bs : List ℕ) (answer : Answer) (m' : Meaning) : Type 0 where
  pub inside : Within m.disks m.rows p (length bs) → MatchResult answer
      (λ _. Stored m p bs m')
      (λ f. DiskFault p f × Spoilt m p m')
  pub outside : (¬ Within m.disks m.rows p (length bs)) → (answer ≡ out_of_range p) × (m' ≡ m)

-- a renewal clears the disk's mark, and its places may hold any units; on a fault the disk is only marked
pub record Renews (m : Meaning) (d : ℕ) (answer : Answer) (m' : Meaning) : Type 0 where
  pub inside : d < m.disks → MatchResult answer
      (λ _. Renewed m d m')
      (λ f. DiskFault (first_of d) f × Marked m d m')
  pub outside : (¬ (d < m.disks)) → (answer ≡ out_of_range (first_of d)) × (m' ≡ m)

-- a disk's mark as it is told: none out of range
abbrev pub marked : Meaning → ℕ → Bool
marked m d = nat_lt d m.disks && m.mark d
