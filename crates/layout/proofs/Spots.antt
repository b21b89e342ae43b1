-- A layout has no more stripes than places, so that its data units can be counted. Assumes nothing.
use Rattle.std.specs.Prelude.{◌≡◌, ℕ, zero, suc, ◌+◌, ◌-◌, ◌*◌, ◌^◌, ◌<◌, ◌≤◌, true, false, List, [], ◌∷◌, length}
use Rattle.std.specs.List.{AllByRecursion, IsDistinct, list_any}
use Rattle.std.proofs.Common.{eqb, refl, ap, arith}
use Rattle.std.proofs.lemmas.Nat.{mul-add-lt, mul-le, same_from_place}
use Rattle.std.proofs.lemmas.Bool.Decides.{nat_tests}
use Rattle.std.proofs.lemmas.Bool.{false≢true, ne_eqb, or_cases}
use Rattle.std.proofs.lemmas.Map.Steps.{length-le_from_distinct_below}
use Rattle.layout.specs.Shape.{Shape, PlacingLaw, IsMember, member_at}
use Rattle.layout.proofs.Placing.{same_place}

-- the place of member 0 of stripe s, as one number
abbrev spot : Shape → ℕ → ℕ
spot p s = (p.place (member_at s 0)).row * p.disks + (p.place (member_at s 0)).disk

-- those of the stripes below n
abbrev spots : Shape → ℕ → List ℕ
spots p zero = []
spots p (suc s) = spot p s ∷ spots p s

module _ (p : Shape) (law : PlacingLaw p) where
  -- each stripe has a member 0
  first : (s : ℕ) → s < p.stripes → IsMember p (member_at s 0)
  first s h = let w = law.wide in (h, omega arith)

  -- its place is one of the layout's
  spot_below : (s : ℕ) → s < p.stripes → spot p s < p.disks * p.rows
  spot_below s h = mul-add-lt _ p.disks _ p.rows (law.row_below _ (first s h)) (law.disk_below _ (first s h))

  -- and so are those of many stripes
  spots_below : (n q : ℕ) → n ≤ p.stripes → list_any (eqb q) (spots p n) ≡ true → q < p.disks * p.rows
  spots_below zero q h e = absurd (false≢true e)
  spots_below (suc s) q h e = let below = spot_below s (omega arith) in grind (arith, or_cases, nat_tests, spots_below s q (omega arith))

  -- two stripes have different places
  spot_apart : (s t : ℕ) → s < t → t < p.stripes → ¬ spot p t ≡ spot p s
  spot_apart s t l h e =
      let hs : s < p.stripes = omega arith in
      let same = same_from_place _ _ _ _ p.disks (law.disk_below _ (first t h)) (law.disk_below _ (first s hs)) e in
      let one = same_place p law (member_at t 0) (member_at s 0) (first t h) (first s hs) in grind arith

  -- a stripe's place is none of those of the stripes before it
  spots_apart : (n t : ℕ) → n ≤ t → t < p.stripes → AllByRecursion (λ y. eqb (spot p t) y ≡ false) (spots p n)
  spots_apart zero t l h = tt
  spots_apart (suc s) t l h = (ne_eqb (spot p t) (spot p s) (spot_apart s t (omega arith) h), spots_apart s t (omega arith) h)

  -- no place is listed twice
  spots_distinct : (n : ℕ) → n ≤ p.stripes → IsDistinct eqb (spots p n)
  unfolding IsDistinct
  spots_distinct zero h = tt
  spots_distinct (suc s) h = (spots_apart s s (omega arith) (omega arith), spots_distinct s (omega arith))

-- as many places as stripes are listed
length-spots : (p : Shape) (n : ℕ) → length (spots p n) ≡ n
length-spots p zero = refl
length-spots p (suc s) = ap suc (length-spots p s)

-- each stripe has a place of its own, so the data units can be counted
pub few_units : (p : Shape) → PlacingLaw p → p.stripes * (p.width - 1) < 2 ^ 64
few_units p law =
    let few = length-le_from_distinct_below (spots p p.stripes) (p.disks * p.rows) (spots_distinct p law p.stripes (omega arith)) (λ q. spots_below p law p.stripes q (omega arith)) in
    let places = mul-le p.disks p.rows 16 4096 law.few_disks law.few_rows in
    let narrow = law.narrow in
    let units = mul-le p.stripes (p.width - 1) 65536 7 (omega (arith, length-spots p p.stripes)) (omega arith) in omega arith
