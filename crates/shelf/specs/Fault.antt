-- The fault shelf: a shelf over another, whose accesses fault by a script. Assumes nothing.
use Rattle.std.specs.Prelude.{◌≡◌, ℕ, Bool, ◌||◌, List, length, Err, MatchOption, MatchResult}
use Rattle.shelf.specs.declared.fault.FaultShelf.{FaultShelf}
use Rattle.shelf.specs.declared.script.Cause.{Cause}
use Rattle.shelf.specs.Meaning.{Answer, fault_at, Meaning, Reads, Renews, Within, Writes}
use Rattle.units.specs.Sets.{has, Inserts, Removes}
use Rattle.units.specs.declared.place.Place.{Place}
use Rattle.shelf.specs.Script.{BringsBack, code, Counts, due}

-- the marks of a shelf and those of a set besides
abbrev pub with_marks : ℕ → (ℕ → Bool) → ℕ → Bool
with_marks marks mark d = has marks d || mark d

module _ {S : Type 0} (meant : S → Meaning) where
  -- what the shelf means: as the one below, but a mark here shows too
  abbrev pub over : FaultShelf S → Meaning
  over s = record (meant s.below) { mark = with_marks s.marks (meant s.below).mark }

  -- the access is in range of the shelf
  abbrev pub Reached : FaultShelf S → Place → ℕ → Type 0
  Reached s p n = Within (meant s.below).disks (meant s.below).rows p n

  -- the fault of this cause is given: the shelf below is not asked, and the disk is marked here
  pub record FaultsHere (s : FaultShelf S) (p : Place) (answer : Answer) (t : FaultShelf S) (cause : Cause) : Type 0 where
    pub told : answer ≡ Err (fault_at (code cause) p)
    pub below : t.below ≡ s.below
    pub marks : Inserts s.marks t.marks p.disk

  -- an access by the script: out of range nothing changes; in range it is counted, and faults where a fault is due, else passes down
  pub record ByScript (s : FaultShelf S) (p : Place) (n : ℕ) (answer : Answer) (t : FaultShelf S) (Passed : Type 0) : Type 0 where
    pub outside : (¬ Reached s p n) → t ≡ s
    pub counts : Reached s p n → Counts s.script p.disk t.script
    pub goes : Reached s p n → MatchOption (due s.script p.disk) (Passed × (t.marks ≡ s.marks)) (FaultsHere s p answer t)

  -- a renewal passes down; where it succeeds, the mark here is cleared and the disk is there again
  pub record PassesRenewal (s : FaultShelf S) (d : ℕ) (answer : Answer) (t : FaultShelf S) (Passed : Type 0) : Type 0 where
    pub passed : Passed
    pub served : MatchResult answer
        (λ _. BringsBack s.script d t.script × Removes s.marks t.marks d)
        (λ _. (t.script ≡ s.script) × (t.marks ≡ s.marks))

  -- what the fault shelf says of its calls: what passes down is one call below, which goes by its relation and by what that shelf says besides
  abbrev pub Reading : (S → Place → List ℕ → Answer → List ℕ → S → Type 0) → FaultShelf S → Place → List ℕ → Answer → List ℕ → FaultShelf S → Type 0
  Reading besides s p before a after t =
      ByScript s p (length before) a t
      (Reads (meant s.below) p before a after (meant t.below) × besides s.below p before a after t.below)

  abbrev pub Writing : (S → Place → List ℕ → Answer → S → Type 0) → FaultShelf S → Place → List ℕ → Answer → FaultShelf S → Type 0
  Writing besides s p bs a t =
      ByScript s p (length bs) a t (Writes (meant s.below) p bs a (meant t.below) × besides s.below p bs a t.below)

  abbrev pub Renewing : (S → ℕ → Answer → S → Type 0) → FaultShelf S → ℕ → Answer → FaultShelf S → Type 0
  Renewing besides s d a t = PassesRenewal s d a t (Renews (meant s.below) d a (meant t.below) × besides s.below d a t.below)
