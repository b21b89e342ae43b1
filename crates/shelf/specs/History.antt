-- A script over whole histories: which fault an access has, told by what happened before. Assumes nothing.
use Rattle.std.specs.Prelude.{◌≡◌, ℕ, suc, ◌+◌, ◌<◌, min, if◌then◌else◌, ◌⊎◌, List, [], ◌∷◌, Some, ◌==◌, ◌≢◌}
use Rattle.shelf.specs.declared.script.Cause.TheVariants.{Gone}
use Rattle.shelf.specs.declared.script.FaultLine.{FaultLine}
use Rattle.shelf.specs.declared.script.FaultScript.{FaultScript}
use Rattle.shelf.specs.Script.{BringsBack, Counts, due, first_cause, lines, Unused}

-- what happens to a disk: a read or write in range, or a renewal that is served
pub data Event : Type 0 where
  access : ℕ → Event
  renewal : ℕ → Event

-- what an event does to a script: the contract of its call
abbrev pub Happens : FaultScript → Event → FaultScript → Type 0
Happens s (access d) t = Counts s d t
Happens s (renewal d) t = BringsBack s d t

-- the script s becomes t by these events, the last one first
abbrev pub Becomes : FaultScript → List Event → FaultScript → Type 0
Becomes s [] t = t ≡ s
Becomes s (e ∷ es) t = (u : FaultScript) × (Becomes s es u × Happens u e t)

-- how often a disk was read or written
abbrev pub accesses : ℕ → List Event → ℕ
accesses d [] = 0
accesses d (access e ∷ es) = if d == e then suc (accesses d es) else accesses d es
accesses d (renewal e ∷ es) = accesses d es

-- the number of the next access of a disk; numbers stop at 4,294,967,295
abbrev pub next_number : ℕ → List Event → ℕ
next_number d es = min (accesses d es + 1) 4294967295

-- since the last renewal of the disk, an access of it had the number of a line that makes it gone
abbrev pub GoneSince : List FaultLine → ℕ → List Event → Type 0
GoneSince ls d [] = ⊥
GoneSince ls d (access e ∷ es) = ((d ≡ e) × (first_cause ls d (next_number d es) ≡ Some Gone)) ⊎ GoneSince ls d es
GoneSince ls d (renewal e ∷ es) = (d ≢ e) × GoneSince ls d es

-- whatever happened: a disk that went away and was not renewed since faults as gone, any other as the first line for its next access says
abbrev pub FaultsByHistory : Type 0
FaultsByHistory =
    (s t : FaultScript) (es : List Event) → Unused s → Becomes s es t → (d : ℕ) → d < 32
    → (GoneSince (lines s) d es → due t d ≡ Some Gone)
    × ((¬ GoneSince (lines s) d es) → due t d ≡ first_cause (lines s) d (next_number d es))
