-- Remainders by n of numbers below n + n, and what an owner in a table says. Assumes nothing.
use Rattle.std.specs.Prelude.{◌≡◌, ℕ, ◌+◌, ◌-◌, ◌%◌, ◌<◌, ◌≤◌, ◌⊎◌, Some, None, if◌then◌else◌}
use Rattle.std.proofs.Common.{refl, ◌∙◌, inl, inr, mod-eq_of_lt, arith}
use Rattle.std.proofs.Math.Nat.{mod-eq-sub-mod}
use Rattle.std.proofs.lemmas.Bool.{and_parts, cases_lt}
use Rattle.std.proofs.lemmas.Bool.Decides.{nat_tests}
use Rattle.std.proofs.lemmas.Option.{cond_some}
use Rattle.units.specs.declared.place.Place.{Place}
use Rattle.layout.specs.declared.Member.{Member}
use Rattle.layout.specs.Tables.{within}

-- x lies in the first round of n numbers, or in the second; x % n ≡ x % n shows `grind` the remainder to match
pub round : (x n : ℕ) → x < n + n → (x % n ≡ x % n) × (((x < n) × (x % n ≡ x)) ⊎ ((n ≤ x) × (x % n ≡ x - n)))
round x n h = (
  refl,
  elim (cases_lt x n) [
    | inl l ↦ inl (l, mod-eq_of_lt l)
    | inr g ↦ let over : x - n < n = omega arith in inr (g, mod-eq-sub-mod g ∙ mod-eq_of_lt over)
  ],
)

-- an owner that a table answers is the table's, at a place within its disks and rows
pub owner_within : (n R : ℕ) (q : Place) (x m : Member) → (if within n R q then Some x else None) ≡ Some m → ((q.disk < n) × (q.row < R)) × (x ≡ m)
owner_within n R q x m e = grind (arith, cond_some, and_parts, nat_tests)
