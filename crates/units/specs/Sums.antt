-- Values that can be added, units among them, and the laws of the sum. Assumes nothing.
use Rattle.std.specs.Prelude.{◌≡◌, ℕ, zero, suc, ◌<◌, if◌then◌else◌, List, ◌==◌, nat_lt}
use Rattle.units.specs.Units.{IsUnit, plus, zeros}

-- values that can be added; `none` is the sum of no values
pub record Sums (A : Type 0) : Type 0 where
  pub none : A
  pub add : A → A → A

abbrev pub units : Sums (List ℕ)
units = record { none = zeros; add = plus }

-- the laws of the sum on the values that fit: a commutative group in which each is its own inverse
pub record SumLaws {A : Type 0} (o : Sums A) (Fits : A → Type 0) : Type 0 where
  pub commutative : (x y : A) → o.add x y ≡ o.add y x
  pub associative : (x y z : A) → o.add (o.add x y) z ≡ o.add x (o.add y z)
  pub neutral : (x : A) → Fits x → o.add x o.none ≡ x
  pub inverse : (x : A) → Fits x → o.add x x ≡ o.none
  pub none_fits : Fits o.none
  pub sum_fits : (x y : A) → Fits x → Fits y → Fits (o.add x y)

module _ {A : Type 0} (o : Sums A) where
  -- the sum of f 0 to f (n - 1)
  abbrev pub sum_below : (ℕ → A) → ℕ → A
  sum_below f zero = o.none
  sum_below f (suc n) = o.add (f n) (sum_below f n)

  -- the values with the one at m left out
  abbrev pub without : (ℕ → A) → ℕ → ℕ → A
  without f m i = if i == m then o.none else f i

  -- the members of a stripe whose k data members are f: the check is their sum
  abbrev pub with_check : ℕ → (ℕ → A) → ℕ → A
  with_check k f j = if nat_lt j k then f j else sum_below f k

-- a stripe of v members is sound when they sum to zeros
abbrev pub Sound : ℕ → (ℕ → List ℕ) → Type 0
Sound v members = sum_below units members v ≡ zeros

-- a stripe is sound exactly when its check is the sum of its k data members
abbrev pub Checks : Type 0
Checks =
    (k : ℕ) (members : ℕ → List ℕ) → ((i : ℕ) → i < suc k → IsUnit (members i))
    → (Sound (suc k) members → members k ≡ sum_below units members k) × (members k ≡ sum_below units members k → Sound (suc k) members)

-- each member of a sound stripe is the sum of the others
abbrev pub Rebuilds : Type 0
Rebuilds =
    (v : ℕ) (members : ℕ → List ℕ) → ((i : ℕ) → i < v → IsUnit (members i)) → Sound v members
    → (m : ℕ) → m < v → members m ≡ sum_below units (without units members m) v
