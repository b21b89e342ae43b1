-- A meaning with one thing changed and nothing else, as a definition; and that each call leaves exactly such a meaning. Assumes nothing.
use Rattle.std.specs.Prelude.{◌≡◌, ℕ, Bool, true, false, if◌then◌else◌, ◌&&◌, List, ◌==◌}
use Rattle.shelf.specs.Meaning.{Marked, Meaning, Renewed, Spoilt, Stored}
use Rattle.units.specs.declared.place.Place.{Place}

-- other bytes at one place
abbrev pub with_bytes : Meaning → Place → List ℕ → Meaning
with_bytes m p bs = record m { bytes = λ q. if q.disk == p.disk && q.row == p.row then bs else m.bytes q }

-- other bytes on one disk, place by place
abbrev pub with_disk : Meaning → ℕ → (Place → List ℕ) → Meaning
with_disk m d bs = record m { bytes = λ q. if q.disk == d then bs q else m.bytes q }

-- the mark of one disk set or cleared
abbrev pub with_mark : Meaning → ℕ → Bool → Meaning
with_mark m d b = record m { mark = λ e. if e == d then b else m.mark e }

-- what a call changes is given in full: only the bytes after a faulted write, and those of a renewed disk, are the shelf's choice
pub record ExactChanges : Type 0 where
  pub stored : (m : Meaning) (p : Place) (bs : List ℕ) (m' : Meaning) → Stored m p bs m' → m' ≡ with_bytes m p bs
  pub marked : (m : Meaning) (d : ℕ) (m' : Meaning) → Marked m d m' → m' ≡ with_mark m d true
  pub spoilt : (m : Meaning) (p : Place) (m' : Meaning) → Spoilt m p m' → m' ≡ with_mark (with_bytes m p (m'.bytes p)) p.disk true
  pub renewed : (m : Meaning) (d : ℕ) (m' : Meaning) → Renewed m d m' → m' ≡ with_mark (with_disk m d m'.bytes) d false
