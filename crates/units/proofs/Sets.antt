-- What is in a set that is held in one number, by `has`: in the parts, joins and complements of sets.
use Rattle.std.proofs.Common.{◌≡◌, ℕ, zero, suc, ◌-◌, ◌*◌, ◌/◌, ◌%◌, ◌^◌, ◌<◌, ◌≤◌, min, max, Bool, true, false, not, ◌&&◌, ◌||◌, eqb, ltb, ◌↔◌, sym, refl, ap, ◌∙◌, inl, inr, pow-suc, arith}
use lib.Bits.{bit_and, bit_or}
use Rattle.std.specs.Int.{bit_at}
use Rattle.std.proofs.lemmas.Nat.{one_shl, pow_below}
use Rattle.std.proofs.lemmas.Nat.Bits.{bit_at_above, bit_at_and, bit_at_lowest, bit_at-lt, bit_at_or, bit_at-pow_other, bit_at-pow_same, bit_at-suc, bit_at-zero, same_from_bits, shr_and_one}
use Rattle.std.proofs.lemmas.Bool.{and_parts, cases_eq, cases_lt, eq-eqb, eqb-true, lt-ltb, ne_eqb}
use Rattle.std.proofs.lemmas.Bool.Decides.{nat_tests}
use Rattle.units.specs.Sets.{has, Subset}

-- ---- from bits to members

from_bit : {n m : ℕ} → n ≡ m → eqb n 1 ≡ eqb m 1
from_bit e = ap (λ n. eqb n 1) e

same_digit : (x y : ℕ) → x < 2 → y < 2 → eqb x 1 ≡ eqb y 1 → x ≡ y
same_digit x y hx hy e = grind (arith, nat_tests)

min_digit : (x y : ℕ) → x < 2 → y < 2 → eqb (min x y) 1 ≡ (eqb x 1 && eqb y 1)
min_digit x y hx hy = grind (arith, nat_tests)

max_digit : (x y : ℕ) → x < 2 → y < 2 → eqb (max x y) 1 ≡ (eqb x 1 || eqb y 1)
max_digit x y hx hy = grind (arith, nat_tests)

other_digit : (x y : ℕ) → x < 2 → y ≡ 1 - x → eqb y 1 ≡ not (eqb x 1)
other_digit x y h e = grind (arith, nat_tests)

and_true : (t : Bool) → (t && true) ≡ t
and_true true = refl
and_true false = refl

-- ---- the first number, and the step to the half

pub has_zero : (s : ℕ) → has s 0 ≡ eqb (s % 2) 1
has_zero s = from_bit (bit_at_lowest s)

pub has_suc : (s i : ℕ) → has s (suc i) ≡ has (s / 2) i
has_suc s i = from_bit (bit_at-suc s i)

-- a number n, and so each set n, is below 2 ^ n
pub below_pow : (n : ℕ) → n < 2 ^ n
below_pow zero = omega arith
below_pow (suc n) = omega (arith, pow-suc 2 n, below_pow n)

-- ---- sets with no number, with one, below a power

pub has_none : (i : ℕ) → has 0 i ≡ false
has_none i = from_bit (bit_at-zero i)

pub has_pow : (j i : ℕ) → has (2 ^ j) i ≡ eqb i j
has_pow j i = elim (cases_eq i j) [
  | inl e ↦ from_bit (ap (bit_at (2 ^ j)) e ∙ bit_at-pow_same j) ∙ sym (eq-eqb i j e)
  | inr ne ↦ from_bit (bit_at-pow_other j i ne) ∙ sym (ne_eqb i j ne)
]

-- a number at or over k is not in a set below 2 ^ k
pub has_high : (k s i : ℕ) → s < 2 ^ k → k ≤ i → has s i ≡ false
has_high k s i h l = from_bit (bit_at_above s k i h l)

-- sets with the same numbers are the same
pub has_ext : (a b : ℕ) → ((i : ℕ) → has a i ≡ has b i) → a ≡ b
has_ext a b e = same_from_bits a b (λ i. same_digit (bit_at a i) (bit_at b i) (bit_at-lt a i) (bit_at-lt b i) (e i))

-- ---- what two sets have in common, their join, and what one leaves of the other

pub has_and : (a b i : ℕ) → has (bit_and a b) i ≡ (has a i && has b i)
has_and a b i = from_bit (bit_at_and a b i) ∙ min_digit (bit_at a i) (bit_at b i) (bit_at-lt a i) (bit_at-lt b i)

pub has_or : (a b i : ℕ) → has (bit_or a b) i ≡ (has a i || has b i)
has_or a b i = from_bit (bit_at_or a b i) ∙ max_digit (bit_at a i) (bit_at b i) (bit_at-lt a i) (bit_at-lt b i)

-- `s | 2 ^ j`
pub has_put : (s j i : ℕ) → has (bit_or s (2 ^ j)) i ≡ (has s i || eqb i j)
has_put s j i = has_or s (2 ^ j) i ∙ ap (λ t. has s i || t) (has_pow j i)

-- the numbers below k that are not in a set below 2 ^ k
pub has_complement : (k b i : ℕ) → b < 2 ^ k → i < k → has (2 ^ k - 1 - b) i ≡ not (has b i)
has_complement zero b i h l = absurd (omega arith)
has_complement (suc k) b zero h l =
    has_zero (2 ^ suc k - 1 - b) ∙ other_digit (b % 2) ((2 ^ suc k - 1 - b) % 2) (omega arith) (omega (arith, pow-suc 2 k)) ∙ ap not (sym (has_zero b))
has_complement (suc k) b (suc i) h l =
    let high : (2 ^ suc k - 1 - b) / 2 ≡ 2 ^ k - 1 - b / 2 = omega (arith, pow-suc 2 k) in
    has_suc (2 ^ suc k - 1 - b) i
    ∙ ap (λ n. has n i) high
    ∙ has_complement k (b / 2) i (omega (arith, pow-suc 2 k)) (omega arith)
    ∙ ap not (sym (has_suc b i))

-- at k bits, of whatever width a number is
module _ (k : ℕ) where
  pub has_difference : (a b i : ℕ) → a < 2 ^ k → b < 2 ^ k → has (bit_and a (2 ^ k - 1 - b)) i ≡ (has a i && not (has b i))
  has_difference a b i ha hb =
      has_and a (2 ^ k - 1 - b) i
      ∙ elim (cases_lt i k) [
        | inl l ↦ ap (λ t. has a i && t) (has_complement k b i hb l)
        | inr g ↦ let none = has_high k a i ha g in
            ap (λ t. t && has (2 ^ k - 1 - b) i) none ∙ ap (λ t. t && not (has b i)) (sym none)
      ]

  -- `s | 1 << j`
  pub has_insert : (s j i : ℕ) → j < k → has (bit_or s ((1 * 2 ^ j) % 2 ^ k)) i ≡ (has s i || (eqb i j && ltb j k))
  has_insert s j i l =
      ap (λ b. has (bit_or s b) i) (one_shl j k l)
      ∙ has_put s j i
      ∙ ap (λ t. has s i || t) (sym (ap (λ t. eqb i j && t) (lt-ltb j k l) ∙ and_true (eqb i j)))

  -- `s & !(2 ^ j)`
  pub has_taken : (s j i : ℕ) → s < 2 ^ k → j < k → has (bit_and s (2 ^ k - 1 - 2 ^ j)) i ≡ (has s i && not (eqb i j))
  has_taken s j i h l = has_difference s (2 ^ j) i h (pow_below j k l) ∙ ap (λ t. has s i && not t) (has_pow j i)

  -- `s & !(1 << j)`
  pub has_remove : (s j i : ℕ) → s < 2 ^ k → j < k → has (bit_and s (2 ^ k - 1 - (1 * 2 ^ j) % 2 ^ k)) i ≡ (has s i && not (eqb i j))
  has_remove s j i h l = ap (λ b. has (bit_and s (2 ^ k - 1 - b)) i) (one_shl j k l) ∙ has_taken s j i h l

-- ---- a set within another

pub within : (a b : ℕ) → (eqb (bit_and a b) a ≡ true) ↔ Subset a b
within a b = (
  λ t i h. (and_parts (has a i) (has b i) (sym (has_and a b i) ∙ ap (λ n. has n i) (eqb-true (bit_and a b) a t) ∙ h)).1,
  λ sub. eq-eqb (bit_and a b) a (has_ext (bit_and a b) a (λ i. has_and a b i ∙ each (has a i) (has b i) (sub i))),
)
  where
    each : (x y : Bool) → (x ≡ true → y ≡ true) → (x && y) ≡ x
    each true y h = h refl
    each false y h = refl

-- ---- at the width of a `Set`, in the form in which its methods need these

pub contained : (s i : ℕ) → eqb (bit_and (s / 2 ^ i) 1) 1 ≡ has s i
contained s i = from_bit (shr_and_one s i)

pub none_over : (s i : ℕ) → s < 2 ^ 32 → 32 ≤ i → has s i ≡ false
none_over = has_high 32

pub inserted : (s j i : ℕ) → j < 32 → has (bit_or s (1 * 2 ^ j % 4294967296)) i ≡ (has s i || (eqb i j && ltb j 32))
inserted = has_insert 32

pub removed : (s j i : ℕ) → s < 4294967296 → j < 32 → has (bit_and s (4294967295 - 1 * 2 ^ j % 4294967296)) i ≡ (has s i && not (eqb i j))
removed = has_remove 32

pub left : (a b i : ℕ) → a < 4294967296 → b < 4294967296 → has (bit_and a (4294967295 - b)) i ≡ (has a i && not (has b i))
left = has_difference 32
