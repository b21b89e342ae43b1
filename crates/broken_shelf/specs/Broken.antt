-- The broken shelf: what it means, and how it answers in range. Assumes nothing.
use Rattle.std.specs.Prelude.{◌≡◌, ℕ, ◌<◌, min, max, Err}
use Rattle.broken_shelf.specs.declared.BrokenShelf.{BrokenShelf}
use Rattle.shelf.specs.Meaning.{Answer, fault_at, first_of, Meaning, Within}
use Rattle.units.specs.declared.place.Place.{Place}
use Rattle.units.specs.Sets.{has}
use Rattle.units.specs.Units.{zeros}

-- 32 disks of zeros, with the marks of its set
abbrev pub broken : BrokenShelf → Meaning
broken s = record { disks = 32; rows = s.rows; bytes = λ _. zeros; mark = has s.marks }

-- the answer in range: a fault with the shelf's code, taken as 2 or 8 where it is less or more
abbrev pub fault : BrokenShelf → Place → Answer
fault s p = Err (fault_at (min (max s.code 2) 8) p)

-- an access of n bytes in range faults, and the shelf goes on with the same code
pub record AlwaysFaults (s : BrokenShelf) (p : Place) (n : ℕ) (answer : Answer) (t : BrokenShelf) : Type 0 where
  pub faults : Within 32 s.rows p n → answer ≡ fault s p
  pub code : t.code ≡ s.code

-- a renewal of one of its disks faults, and the shelf goes on with the same code
pub record AlwaysFaultsRenewal (s : BrokenShelf) (d : ℕ) (answer : Answer) (t : BrokenShelf) : Type 0 where
  pub faults : d < 32 → answer ≡ fault s (first_of d)
  pub code : t.code ≡ s.code
