-- A pool by its units: what stands in a unit, and in the pool with another unit in its place.
use Rattle.std.proofs.Common.{◌≡◌, ℕ, ◌+◌, ◌-◌, ◌*◌, ◌/◌, ◌<◌, ◌≤◌, true, List, ◌++◌, length, get_or, take, drop, sym, ap, ap₂, ◌∙◌, subst, inl, inr, arith, length-append, length-drop, length-take}
use borrow.Rule.Slice.PartMut.{put_mid}
use Rattle.std.proofs.lemmas.List.{drop-drop, ext_get_or, get_or_append_left, get_or-append_right, get_or-take, get_or-drop, length-take-le}
use Rattle.std.proofs.lemmas.Bool.{cases_lt, lt-ltb, ltb-true}
use Rattle.units.specs.Units.{holds_unit, IsUnit, part_at, plus, unit_at, with_part, with_unit}

-- ---- parts of 512 bytes, at any byte

pub length-part_at : (p : List ℕ) (at : ℕ) → at + 512 ≤ length p → length (part_at p at) ≡ 512
length-part_at p at h = length-take-le 512 (drop at p) (simp length-drop (omega arith))

pub get_or-part_at : (p : List ℕ) (at k : ℕ) → k < 512 → get_or (part_at p at) k 0 ≡ get_or p (at + k) 0
get_or-part_at p at k h = get_or-take 512 (drop at p) k 0 h ∙ get_or-drop at p k 0

-- a part by its bytes
pub part_at_is : (p u : List ℕ) (at : ℕ) → at + 512 ≤ length p → length u ≡ 512
    → ((k : ℕ) → k < 512 → get_or p (at + k) 0 ≡ get_or u k 0) → part_at p at ≡ u
part_at_is p u at h whole each =
    let l = length-part_at p at h in
    ext_get_or 0 (part_at p at) u (l ∙ sym whole)
    (λ k b. let b' : k < 512 = omega (arith, l) in get_or-part_at p at k b' ∙ each k b')

-- the k bytes from `at` on written over by their sum with u, where these are the part
pub part_summed : (at k : ℕ) (p t u : List ℕ) → k ≡ 512 → t ≡ plus (take k (drop at p)) u → put_mid at k p t ≡ with_part p at (plus (part_at p at) u)
part_summed at k p t u whole sum =
    ap₂ (λ sum rest. take at p ++ (sum ++ rest)) (sum ∙ ap (λ n. plus (take n (drop at p)) u) whole) (drop-drop k at p ∙ ap (λ n. drop (at + n) p) whole)

module _ (p u : List ℕ) (at : ℕ) (fits : at + 512 ≤ length p) (whole : length u ≡ 512) where
  pub length-with_part : length (with_part p at u) ≡ length p
  length-with_part = simp (length-append, length-take, length-drop) (omega arith)

  front : length (take at p) ≡ at
  front = length-take-le at p (omega arith)

  pub get_or-with_part_before : (k : ℕ) → k < at → get_or (with_part p at u) k 0 ≡ get_or p k 0
  get_or-with_part_before k h =
      get_or_append_left (take at p) (u ++ drop (at + 512) p) 0 k (omega (arith, front)) ∙ get_or-take at p k 0 h

  pub get_or-with_part_in : (k : ℕ) → k < 512 → get_or (with_part p at u) (at + k) 0 ≡ get_or u k 0
  get_or-with_part_in k h =
      get_or-append_right (take at p) (u ++ drop (at + 512) p) at (at + k) 0 front (omega arith)
      ∙ ap (λ n. get_or (u ++ drop (at + 512) p) n 0) (omega arith)
      ∙ get_or_append_left u (drop (at + 512) p) 0 k (omega arith)

  pub get_or-with_part_after : (k : ℕ) → at + 512 ≤ k → get_or (with_part p at u) k 0 ≡ get_or p k 0
  get_or-with_part_after k h =
      get_or-append_right (take at p) (u ++ drop (at + 512) p) at k 0 front (omega arith)
      ∙ get_or-append_right u (drop (at + 512) p) 512 (k - at) 0 whole (omega arith)
      ∙ get_or-drop (at + 512) p (k - at - 512) 0
      ∙ ap (λ n. get_or p n 0) (omega arith)

  -- a pool that has u's bytes in the part and p's bytes elsewhere
  pub with_part_is : (q : List ℕ) → length q ≡ length p
      → ((k : ℕ) → k < 512 → get_or q (at + k) 0 ≡ get_or u k 0)
      → ((k : ℕ) → k < at → get_or q k 0 ≡ get_or p k 0)
      → ((k : ℕ) → at + 512 ≤ k → get_or q k 0 ≡ get_or p k 0)
      → q ≡ with_part p at u
  with_part_is q same inside before after = ext_get_or 0 q (with_part p at u) (same ∙ sym length-with_part) each
    where
      each : (k : ℕ) → k < length q → get_or q k 0 ≡ get_or (with_part p at u) k 0
      each k h =
          elim (cases_lt k at) [
            | inl l ↦ before k l ∙ sym (get_or-with_part_before k l)
            | inr g ↦ elim (cases_lt k (at + 512)) [
              | inl l ↦ let b : k - at < 512 = omega arith in
                  let e : at + (k - at) ≡ k = omega arith in
                  subst (λ n. get_or q n 0 ≡ get_or (with_part p at u) n 0) e (inside (k - at) b ∙ sym (get_or-with_part_in (k - at) b))
              | inr a ↦ after k a ∙ sym (get_or-with_part_after k a)
            ]
          ]

-- ---- units, at multiples of 512 bytes

-- a pool has unit i exactly where it holds all its bytes
pub holds_fits : (p : List ℕ) (i : ℕ) → holds_unit p i ≡ true → i * 512 + 512 ≤ length p
holds_fits p i h = omega (arith, ltb-true i (length p / 512) h)

pub fits_holds : (p : List ℕ) (i : ℕ) → i * 512 + 512 ≤ length p → holds_unit p i ≡ true
fits_holds p i h = lt-ltb i (length p / 512) (omega arith)

pub length-unit_at : (p : List ℕ) (i : ℕ) → i * 512 + 512 ≤ length p → length (unit_at p i) ≡ 512
length-unit_at p i = length-part_at p (i * 512)

pub get_or-unit_at : (p : List ℕ) (i k : ℕ) → k < 512 → get_or (unit_at p i) k 0 ≡ get_or p (i * 512 + k) 0
get_or-unit_at p i = get_or-part_at p (i * 512)

module _ (p u : List ℕ) (i : ℕ) (fits : i * 512 + 512 ≤ length p) (whole : IsUnit u) where
  pub length-with_unit : length (with_unit p i u) ≡ length p
  length-with_unit = length-with_part p u (i * 512) fits whole

  -- a pool that has u's bytes in unit i and p's bytes elsewhere
  pub with_unit_is : (q : List ℕ) → length q ≡ length p
      → ((k : ℕ) → k < 512 → get_or q (i * 512 + k) 0 ≡ get_or u k 0)
      → ((k : ℕ) → k < i * 512 → get_or q k 0 ≡ get_or p k 0)
      → ((k : ℕ) → i * 512 + 512 ≤ k → get_or q k 0 ≡ get_or p k 0)
      → q ≡ with_unit p i u
  with_unit_is = with_part_is p u (i * 512) fits whole

  pub unit_at_same : unit_at (with_unit p i u) i ≡ u
  unit_at_same =
      part_at_is (with_unit p i u) u (i * 512) (omega (arith, length-with_unit)) whole (get_or-with_part_in p u (i * 512) fits whole)

  pub unit_at_other : (j : ℕ) → j * 512 + 512 ≤ length p → (j ≡ i → ⊥) → unit_at (with_unit p i u) j ≡ unit_at p j
  unit_at_other j h ne =
      part_at_is (with_unit p i u) (unit_at p j) (j * 512) (omega (arith, length-with_unit)) (length-unit_at p j h)
      (λ k l. byte k l ∙ sym (get_or-unit_at p j k l))
    where
      byte : (k : ℕ) → k < 512 → get_or (with_unit p i u) (j * 512 + k) 0 ≡ get_or p (j * 512 + k) 0
      byte k l =
          elim (cases_lt j i) [
            | inl b ↦ get_or-with_part_before p u (i * 512) fits whole (j * 512 + k) (omega arith)
            | inr a ↦ get_or-with_part_after p u (i * 512) fits whole (j * 512 + k) (omega arith)
          ]
