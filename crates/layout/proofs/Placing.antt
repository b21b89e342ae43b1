-- What follows from the placing law, for any layout. Assumes nothing.
use Rattle.std.proofs.Common.{◌≡◌, ℕ, ◌/◌, ◌%◌, ◌<◌, ◌≤◌, Some, IsTrue, ◌↔◌, sym, ◌∙◌, refl, inl, inr, arith}
use lib.Count.{ones}
use Rattle.std.proofs.lemmas.Bool.{cases_lt}
use Rattle.std.proofs.lemmas.Nat.{mod_below, div_below}
use Rattle.units.specs.Sets.{has}
use Rattle.units.proofs.Counts.{two_out}
use Rattle.units.specs.declared.place.Place.{Place}
use Rattle.layout.specs.Shape.{Shape, PlacingLaw, OnDisk, IsMember, IsDataMember, data_units, data_width, member_at}
use Rattle.layout.specs.declared.Member.{Member}

-- each data unit is a data member
pub units_are_members : (p : Shape) → PlacingLaw p → (u : ℕ) → u < data_units p → IsDataMember p (member_at (u / data_width p) (u % data_width p))
units_are_members p law u h = (div_below u (data_width p) p.stripes (omega arith) h, mod_below u (data_width p) (omega arith))

-- a stripe has at most one member on a disk
pub one_on_disk : (p : Shape) → PlacingLaw p → (s d set : ℕ) → ((j : ℕ) → IsTrue (has set j) ↔ OnDisk p (member_at s j) d) → ones set ≤ 1
one_on_disk p law s d set each = elim (cases_lt (ones set) 2) [
  | inl few ↦ omega arith
  | inr two ↦
      let t = two_out set two in
      let a = (each t.0).0 t.3 in
      let b = (each t.1).0 t.4 in
      let one = law.apart (member_at s t.0) (member_at s t.1) a.0 b.0 refl (a.1 ∙ sym b.1) in grind arith
]

-- no two members stand at one place
pub same_place : (p : Shape) → PlacingLaw p → (m w : Member) → IsMember p m → IsMember p w → p.place m ≡ p.place w → m ≡ w
same_place p law m w hm hw e = let a = law.owned m hm in let b = law.owned w hw in grind arith

-- a place that has an owner is in range
pub owner_below : (p : Shape) → PlacingLaw p → (q : Place) (m : Member) → p.owner q ≡ Some m → (q.disk < p.disks) × (q.row < p.rows)
owner_below p law q m e =
    let stands = law.placed q m e in let disk = law.disk_below m stands.0 in let row = law.row_below m stands.0 in grind arith
