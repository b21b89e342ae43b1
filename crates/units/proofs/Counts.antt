-- How many numbers a set has, which they are in order, and the lowest of them.
use Rattle.std.proofs.Common.{◌≡◌, ℕ, zero, suc, ◌+◌, ◌/◌, ◌%◌, ◌^◌, ◌<◌, ◌≤◌, Bool, true, false, cond, ◌&&◌, eqb, List, [], ◌∷◌, length, get_or, sym, refl, ap, ap₂, ◌∙◌, inl, inr, pow-suc, arith}
use lib.Bits.{bit_and, bit_or, or_disjoint}
use lib.Count.{ones, ones_step, count_trailing_zeros, under}
use Rattle.std.proofs.lemmas.List.Elements.{All-filter, Contains-append_right, filter_passes}
use Rattle.std.proofs.lemmas.List.FromFn.{get_or-range_with_len, length-range_with_len}
use Rattle.std.proofs.lemmas.List.Kept.{IsStrictlyIncreasing-filter}
use Rattle.std.proofs.lemmas.Bool.{both_ways, cases_eq, eqb-false, eqb-true}
use Rattle.std.proofs.lemmas.Bool.Decides.{nat_tests}
use Rattle.std.specs.List.{All, Contains, filter, range_with_len}
use Rattle.std.specs.List.Sorted.{IsStrictlyIncreasing}
use Rattle.units.specs.Sets.{elements, has, Lowest}
use Rattle.units.proofs.Sets.{below_pow, has_and, has_ext, has_none, has_pow, has_suc, has_zero}

-- ---- the digit of the number 0

pub odd_in : (s : ℕ) → has s 0 ≡ true → s % 2 ≡ 1
odd_in s h = eqb-true (s % 2) 1 (sym (has_zero s) ∙ h)

pub even_out : (s : ℕ) → has s 0 ≡ false → s % 2 ≡ 0
even_out s h = let ne = eqb-false (s % 2) 1 (sym (has_zero s) ∙ h) in omega arith

-- ---- how many ones

ones_none : ones 0 ≡ 0
unfolding ones
ones_none = refl

-- one number put in
ones_add : (j s : ℕ) → has s j ≡ false → ones (s + 2 ^ j) ≡ suc (ones s)
ones_add zero s h =
    let low = even_out s h in
    let half : (s + 1) / 2 ≡ s / 2 = omega arith in
    ones_step (s + 1) ∙ omega (arith, ap ones half, ones_step s)
ones_add (suc j) s h =
    let low : (s + 2 ^ suc j) % 2 ≡ s % 2 = omega (arith, pow-suc 2 j) in
    let half : (s + 2 ^ suc j) / 2 ≡ s / 2 + 2 ^ j = omega (arith, pow-suc 2 j) in
    ones_step (s + 2 ^ suc j) ∙ omega (arith, ap ones half, ones_step s, ones_add j (s / 2) (sym (has_suc s j) ∙ h))

apart : (s j : ℕ) → has s j ≡ false → bit_and s (2 ^ j) ≡ 0
apart s j h = has_ext (bit_and s (2 ^ j)) 0 (λ i. has_and s (2 ^ j) i ∙ ap (λ t. has s i && t) (has_pow j i) ∙ none i ∙ sym (has_none i))
  where
    none : (i : ℕ) → (has s i && eqb i j) ≡ false
    none i = elim (cases_eq i j) [
      | inl e ↦ ap (λ n. has s n && eqb n j) e ∙ ap (λ t. t && eqb j j) h
      | inr ne ↦ grind (arith, nat_tests)
    ]

pub ones_insert : (s j : ℕ) → has s j ≡ false → ones (bit_or s (2 ^ j)) ≡ suc (ones s)
ones_insert s j h = ap ones (or_disjoint s (2 ^ j) (apart s j h)) ∙ ones_add j s h

pub one_in : (s i : ℕ) → has s i ≡ true → 1 ≤ ones s
one_in s zero h = omega (arith, ones_step s, odd_in s h)
one_in s (suc i) h = omega (arith, ones_step s, one_in (s / 2) i (sym (has_suc s i) ∙ h))

pub two_in : (s i j : ℕ) → has s i ≡ true → has s j ≡ true → (i ≡ j → ⊥) → 2 ≤ ones s
two_in s zero zero hi hj ne = absurd (ne refl)
two_in s zero (suc j) hi hj ne = omega (arith, ones_step s, odd_in s hi, one_in (s / 2) j (sym (has_suc s j) ∙ hj))
two_in s (suc i) zero hi hj ne = omega (arith, ones_step s, odd_in s hj, one_in (s / 2) i (sym (has_suc s i) ∙ hi))
two_in s (suc i) (suc j) hi hj ne =
    omega (arith, ones_step s, two_in (s / 2) i j (sym (has_suc s i) ∙ hi) (sym (has_suc s j) ∙ hj) (λ e. ne (ap suc e)))

-- a set of at most one number has no other
pub ones_one : (s i j : ℕ) → ones s ≤ 1 → has s i ≡ true → has s j ≡ true → i ≡ j
ones_one s i j few hi hj = elim (cases_eq i j) [ inl e ↦ e | inr ne ↦ absurd (omega (arith, two_in s i j hi hj ne)) ]

-- ---- the numbers of a set, in order

length-kept : (t : Bool) (x : ℕ) (xs : List ℕ) → length (cond t (x ∷ xs) xs) ≡ cond t (suc (length xs)) (length xs)
length-kept true x xs = refl
length-kept false x xs = refl

-- the numbers from a + 1 on are as many as those of the half from a on
length-half : (s a n : ℕ) → length (filter (has s) (range_with_len (a + 1) n)) ≡ length (filter (has (s / 2)) (range_with_len a n))
length-half s a zero = refl
length-half s a (suc n) =
    let next : a + 1 ≡ suc a = omega arith in
    length-kept (has s (a + 1)) (a + 1) (filter (has s) (range_with_len (a + 1 + 1) n))
    ∙ ap₂ (λ t m. cond t (suc m) m) (ap (has s) next ∙ has_suc s a) (length-half s (a + 1) n)
    ∙ sym (length-kept (has (s / 2) a) a (filter (has (s / 2)) (range_with_len (a + 1) n)))

-- a set has as many numbers as its number has ones
pub ones_elements : (n s : ℕ) → s < 2 ^ n → ones s ≡ length (elements n s)
unfolding elements
ones_elements zero s h = let e : s ≡ 0 = omega arith in ap ones e ∙ ones_none
ones_elements (suc n) s h =
    ones_step s
    ∙ ap (λ m. s % 2 + m) (ones_elements n (s / 2) (omega (arith, pow-suc 2 n)) ∙ sym (length-half s 0 n))
    ∙ first (has s 0) (odd_in s) (even_out s)
    ∙ sym (length-kept (has s 0) 0 (filter (has s) (range_with_len 1 n)))
  where
    first : (t : Bool) → (t ≡ true → s % 2 ≡ 1) → (t ≡ false → s % 2 ≡ 0)
        → s % 2 + length (filter (has s) (range_with_len 1 n)) ≡ cond t (suc (length (filter (has s) (range_with_len 1 n)))) (length (filter (has s) (range_with_len 1 n)))
    first true odd even = omega (arith, odd refl)
    first false odd even = omega (arith, even refl)

-- the numbers listed are in the set and in range
pub elements_in : (n s : ℕ) → All (λ x. (has s x ≡ true) × (x < n)) (elements n s)
unfolding elements
elements_in n s k d h = (filter_passes (has s) (range_with_len 0 n) k d h, All-filter (has s) (λ x. x < n) (range_with_len 0 n) below k d h)
  where
    below : All (λ x. x < n) (range_with_len 0 n)
    below j e l = let in_range : j < n = omega (arith, length-range_with_len 0 n) in omega (arith, get_or-range_with_len 0 n j e in_range)

-- what passes the test is kept
kept : (p : ℕ → Bool) (xs : List ℕ) (x : ℕ) → p x ≡ true → Contains xs x → Contains (filter p xs) x
kept p [] x t (k, l, e) = absurd (omega arith)
kept p (y ∷ ys) x t (zero, l, e) = first (p y) (ap p e ∙ t)
  where
    first : (b : Bool) → b ≡ true → Contains (cond b (y ∷ filter p ys) (filter p ys)) x
    first true _ = (0, omega arith, e)
    first false is = absurd (both_ways false refl is)
kept p (y ∷ ys) x t (suc k, l, e) = rest (p y) (kept p ys x t (k, omega arith, e))
  where
    rest : (b : Bool) → Contains (filter p ys) x → Contains (cond b (y ∷ filter p ys) (filter p ys)) x
    rest true c = Contains-append_right (y ∷ []) (filter p ys) x c
    rest false c = c

-- a number in the set and in range is listed
pub has-elements : (n s x : ℕ) → has s x ≡ true → x < n → Contains (elements n s) x
unfolding elements
has-elements n s x h l =
    let here : x < length (range_with_len 0 n) = omega (arith, length-range_with_len 0 n) in
    kept (has s) (range_with_len 0 n) x h (x, here, omega (arith, get_or-range_with_len 0 n x x l))

-- the numbers rise
pub elements_rising : (n s : ℕ) → IsStrictlyIncreasing (elements n s)
unfolding elements
elements_rising n s = IsStrictlyIncreasing-filter (has s) (range_with_len 0 n) rising
  where
    rising : IsStrictlyIncreasing (range_with_len 0 n)
    rising k h =
        let in_range : k + 1 < n = omega (arith, length-range_with_len 0 n) in
        omega (arith, get_or-range_with_len 0 n k 0 (omega arith), get_or-range_with_len 0 n (k + 1) 0 in_range)

-- two different numbers of a set that has two
pub two_out : (s : ℕ) → 2 ≤ ones s → (i : ℕ) × (j : ℕ) × (i ≡ j → ⊥) × (has s i ≡ true) × (has s j ≡ true)
two_out s h =
    let l : 1 < length (elements s s) = omega (arith, ones_elements s s (below_pow s)) in
    let rises = elements_rising s s 0 l in
    (get_or (elements s s) 0 0, get_or (elements s s) 1 0, λ e. omega arith, (elements_in s s 0 0 (omega arith)).0, (elements_in s s 1 0 l).0)

-- ---- the lowest number of a set

pub lowest_trailing : (k s : ℕ) → 0 < s → s < 2 ^ k → Lowest s (count_trailing_zeros k s)
unfolding count_trailing_zeros
lowest_trailing zero s pos h = absurd (omega arith)
lowest_trailing (suc k) s pos h =
    digit (s % 2) refl (λ even. lowest_trailing k (s / 2) (omega arith) (omega (arith, pow-suc 2 k)))
  where
    digit : (d : ℕ) → s % 2 ≡ d → (s % 2 ≡ 0 → Lowest (s / 2) (count_trailing_zeros k (s / 2))) → Lowest s (under d (count_trailing_zeros k (s / 2)))
    digit zero e half =
        let low = half e in
        record { there = has_suc s _ ∙ low.there; none_below = below }
      where
        below : (j : ℕ) → j < suc (count_trailing_zeros k (s / 2)) → has s j ≡ false
        below zero l = has_zero s ∙ ap (λ n. eqb n 1) e
        below (suc j) l = has_suc s j ∙ (half e).none_below j (omega arith)
    digit (suc d) e half =
        let odd : s % 2 ≡ 1 = omega arith in
        record { there = has_zero s ∙ ap (λ n. eqb n 1) odd; none_below = λ j l. absurd (omega arith) }

-- the same as `Set::lowest` needs it
pub lowest_there : (s : ℕ) → 0 < s → s < 2 ^ 32 → has s (count_trailing_zeros 32 s) ≡ true
lowest_there s some h = (lowest_trailing 32 s some h).there

pub none_below_lowest : (s j : ℕ) → s < 2 ^ 32 → j < count_trailing_zeros 32 s → has s j ≡ false
none_below_lowest zero j h l = has_none j
none_below_lowest (suc s) j h l = (lowest_trailing 32 (suc s) (omega arith) h).none_below j l
