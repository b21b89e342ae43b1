-- The laws of the sum of units, and what follows from them for any values that can be added.
use Rattle.std.proofs.Common.{◌≡◌, ℕ, zero, suc, ◌+◌, ◌<◌, ◌≤◌, eqb, ltb, List, [], ◌∷◌, length, get_or, set, replicate, sym, refl, ap, ◌∙◌, ap₂, ⊎_elim, arith, below_more}
use lib.Bits.{bit_xor, xor_comm, xor_assoc, xor_self, xor_zero_r}
use Rattle.std.proofs.lemmas.Bool.{cases_eq, eq-eqb, ne_eqb, cond-true, cond-false, cond_both, ltb-true, lt-ltb, le-ltb}
use Rattle.std.proofs.lemmas.List.{ext_get_or, get_or-set_other, get_or-set_same, length-replicate, length-set}
use Rattle.units.specs.Units.{plus, IsUnit}
use Rattle.units.specs.Sums.{Checks, Sums, units, SumLaws, sum_below, without, with_check, Rebuilds}

-- ---- the sum of units

plus_comm : (a b : List ℕ) → plus a b ≡ plus b a
plus_comm [] [] = refl
plus_comm [] (y ∷ b) = refl
plus_comm (x ∷ a) [] = refl
plus_comm (x ∷ a) (y ∷ b) = ap₂ ◌∷◌ (xor_comm x y) (plus_comm a b)

plus_assoc : (a b c : List ℕ) → plus (plus a b) c ≡ plus a (plus b c)
plus_assoc [] b c = refl
plus_assoc (x ∷ a) [] c = refl
plus_assoc (x ∷ a) (y ∷ b) [] = refl
plus_assoc (x ∷ a) (y ∷ b) (z ∷ c) = ap₂ ◌∷◌ (xor_assoc x y z) (plus_assoc a b c)

plus_self : (n : ℕ) (a : List ℕ) → length a ≡ n → plus a a ≡ replicate n 0
plus_self zero [] e = refl
plus_self zero (x ∷ a) e = absurd (omega (arith, e))
plus_self (suc n) [] e = absurd (omega (arith, e))
plus_self (suc n) (x ∷ a) e = ap₂ ◌∷◌ (xor_self x) (plus_self n a (omega arith))

plus_zeros : (n : ℕ) (a : List ℕ) → length a ≡ n → plus a (replicate n 0) ≡ a
plus_zeros zero [] e = refl
plus_zeros zero (x ∷ a) e = absurd (omega (arith, e))
plus_zeros (suc n) [] e = absurd (omega (arith, e))
plus_zeros (suc n) (x ∷ a) e = ap₂ ◌∷◌ (xor_zero_r x) (plus_zeros n a (omega arith))

pub length-plus : (a b : List ℕ) → length a ≡ length b → length (plus a b) ≡ length a
length-plus [] b e = refl
length-plus (x ∷ a) [] e = absurd (omega (arith, e))
length-plus (x ∷ a) (y ∷ b) e = ap suc (length-plus a b (omega arith))

pub get_or-plus : (a b : List ℕ) (k : ℕ) → length a ≡ length b → get_or (plus a b) k 0 ≡ bit_xor (get_or a k 0) (get_or b k 0)
get_or-plus [] [] k e = refl
get_or-plus [] (y ∷ b) k e = absurd (omega (arith, e))
get_or-plus (x ∷ a) [] k e = absurd (omega (arith, e))
get_or-plus (x ∷ a) (y ∷ b) zero e = refl
get_or-plus (x ∷ a) (y ∷ b) (suc k) e = get_or-plus a b k (omega arith)

-- t is a with the sum of a and b in its first i bytes, so at 512 it is the sum
pub record Summed (a b : List ℕ) (i : ℕ) (t : List ℕ) : Type 0 where
  pub below : (k : ℕ) → k < i → get_or t k 0 ≡ bit_xor (get_or a k 0) (get_or b k 0)
  pub rest : (k : ℕ) → i ≤ k → get_or t k 0 ≡ get_or a k 0
  pub long : length t ≡ 512
  pub whole : 512 ≤ i → t ≡ plus a b

module _ (a b : List ℕ) (ha : length a ≡ 512) (hb : length b ≡ 512) where
  made : (i : ℕ) (t : List ℕ) → length t ≡ 512
      → ((k : ℕ) → k < i → get_or t k 0 ≡ bit_xor (get_or a k 0) (get_or b k 0))
      → ((k : ℕ) → i ≤ k → get_or t k 0 ≡ get_or a k 0)
      → Summed a b i t
  made i t ht below rest = record { below = below; rest = rest; long = ht; whole = whole }
    where
      whole : 512 ≤ i → t ≡ plus a b
      whole h =
          ext_get_or 0 t (plus a b) (omega (arith, length-plus a b (ha ∙ sym hb)))
          (λ k l. below k (omega arith) ∙ sym (get_or-plus a b k (ha ∙ sym hb)))

  pub summed_none : Summed a b 0 a
  summed_none = made 0 a ha (λ k l. absurd (omega arith)) (λ k l. refl)

  pub summed_more : (i : ℕ) (t : List ℕ) → i < 512 → Summed a b i t → Summed a b (i + 1) (set t i (bit_xor (get_or t i 0) (get_or b i 0)))
  summed_more i t l h = made (i + 1) new (length-set t i byte ∙ h.long)
      (below_more (λ k. get_or new k 0 ≡ bit_xor (get_or a k 0) (get_or b k 0)) i
      (λ k b. other k (omega arith) ∙ h.below k b)
      (get_or-set_same t i byte 0 (omega (arith, h.long)) ∙ ap (λ n. bit_xor n (get_or b i 0)) (h.rest i (omega arith))))
      (λ k g. other k (omega arith) ∙ h.rest k (omega arith))
    where
      byte : ℕ
      byte = bit_xor (get_or t i 0) (get_or b i 0)

      new : List ℕ
      new = set t i byte

      other : (k : ℕ) → (k ≡ i → ⊥) → get_or new k 0 ≡ get_or t k 0
      other k ne = get_or-set_other t i k byte 0 ne

pub unit_laws : SumLaws units IsUnit
unit_laws = record {
  commutative = plus_comm;
  associative = plus_assoc;
  neutral = plus_zeros 512;
  inverse = plus_self 512;
  none_fits = length-replicate {A = ℕ} 512 0;
  sum_fits = λ x y ex ey. length-plus x y (ex ∙ sym ey) ∙ ex;
}

-- ---- sums of any values under the laws

module _ {A : Type 0} (o : Sums A) (Fits : A → Type 0) (g : SumLaws o Fits) where
  -- the first n values fit
  abbrev pub FitBelow : (ℕ → A) → ℕ → Type 0
  FitBelow f n = (i : ℕ) → i < n → Fits (f i)

  -- values that are the same below n have the same sum
  pub sum_same : (f h : ℕ → A) (n : ℕ) → ((i : ℕ) → i < n → f i ≡ h i) → sum_below o f n ≡ sum_below o h n
  sum_same f h zero e = refl
  sum_same f h (suc n) e = ap₂ o.add (e n (omega arith)) (sum_same f h n (λ i lt. e i (omega arith)))

  pub sum_below_fits : (f : ℕ → A) (n : ℕ) → FitBelow f n → Fits (sum_below o f n)
  sum_below_fits f zero e = g.none_fits
  sum_below_fits f (suc n) e = g.sum_fits (f n) (sum_below o f n) (e n (omega arith)) (sum_below_fits f n (λ i l. e i (omega arith)))

  pub with_check_fits : (k : ℕ) (f : ℕ → A) → FitBelow f k → (j : ℕ) → Fits (with_check o k f j)
  with_check_fits k f e j =
      cond_both (ltb j k) (f j) (sum_below o f k) Fits (λ t. e j (ltb-true j k t)) (λ _. sum_below_fits f k e)

  pub without_fits : (f : ℕ → A) (m n : ℕ) → FitBelow f n → FitBelow (without o f m) n
  without_fits f m n e i l = cond_both (eqb i m) o.none (f i) Fits (λ _. g.none_fits) (λ _. e i l)

  pub without_other : (f : ℕ → A) (m i : ℕ) → (i ≡ m → ⊥) → without o f m i ≡ f i
  without_other f m i n = cond-false (eqb i m) o.none (f i) (ne_eqb i m n)

  pub without_same : (f : ℕ → A) (m i : ℕ) → i ≡ m → without o f m i ≡ o.none
  without_same f m i e = cond-true (eqb i m) o.none (f i) (eq-eqb i m e)

  -- one value taken out of a sum
  pub sum_out : (f : ℕ → A) (m n : ℕ) → FitBelow f n → m < n
      → sum_below o f n ≡ o.add (f m) (sum_below o (without o f m) n)
  sum_out f m zero e lt = absurd (omega arith)
  sum_out f m (suc n) e lt = ⊎_elim last (λ isnt. before isnt (sum_out f m n first (omega arith))) (cases_eq n m)
    where
      first : FitBelow f n
      first i l = e i (omega arith)

      last : n ≡ m → sum_below o f (suc n) ≡ o.add (f m) (sum_below o (without o f m) (suc n))
      last is =
          let rest = sum_below o (without o f m) n in
          let same : sum_below o f n ≡ rest = sum_same f (without o f m) n (λ i l. sym (without_other f m i (λ b. omega arith))) in
          let None-first = g.commutative rest o.none ∙ ap (λ (x : A). o.add x rest) (sym (without_same f m n is)) in
          ap₂ o.add (ap f is) (same ∙ sym (g.neutral rest (sum_below_fits (without o f m) n (without_fits f m n first))) ∙ None-first)

      before : (n ≡ m → ⊥) → sum_below o f n ≡ o.add (f m) (sum_below o (without o f m) n)
          → sum_below o f (suc n) ≡ o.add (f m) (sum_below o (without o f m) (suc n))
      before isnt shorter =
          let rest = sum_below o (without o f m) n in
          ap (o.add (f n)) shorter
          ∙ sym (g.associative (f n) (f m) rest)
          ∙ ap (λ (x : A). o.add x rest) (g.commutative (f n) (f m))
          ∙ g.associative (f m) (f n) rest
          ∙ ap (λ (x : A). o.add (f m) (o.add x rest)) (sym (without_other f m n isnt))

  -- values that sum to none are the same
  pub cancel : (x y : A) → Fits x → Fits y → o.add x y ≡ o.none → x ≡ y
  cancel x y a b e =
      sym (g.neutral x a)
      ∙ ap (o.add x) (sym e)
      ∙ sym (g.associative x x y)
      ∙ ap (λ (w : A). o.add w y) (g.inverse x a)
      ∙ g.commutative o.none y
      ∙ g.neutral y b

  -- a member of a stripe whose members sum to none is the sum of the others
  pub one_from_others : (v : ℕ) (f : ℕ → A) → FitBelow f v → sum_below o f v ≡ o.none
      → (m : ℕ) → m < v → f m ≡ sum_below o (without o f m) v
  one_from_others v f e sound m lt =
      cancel (f m) (sum_below o (without o f m) v) (e m lt) (sum_below_fits (without o f m) v (without_fits f m v e))
      (sym (sum_out f m v e lt) ∙ sound)

  -- the data with their check sum to none
  pub with_check_sound : (k : ℕ) (f : ℕ → A) → FitBelow f k → sum_below o (with_check o k f) (suc k) ≡ o.none
  with_check_sound k f e =
      ap₂ o.add
      (cond-false (ltb k k) (f k) (sum_below o f k) (le-ltb k k (omega arith)))
      (sum_same (with_check o k f) f k (λ i lt. cond-true (ltb i k) (f i) (sum_below o f k) (lt-ltb i k lt)))
      ∙ g.inverse (sum_below o f k) (sum_below_fits f k e)

  -- a member of the data with their check is the sum of the others, however member m itself reads
  pub others_are : (k : ℕ) (f h : ℕ → A) → FitBelow f k → (m : ℕ) → m < suc k
      → ((i : ℕ) → i < suc k → (i ≡ m → ⊥) → h i ≡ with_check o k f i)
      → sum_below o (without o h m) (suc k) ≡ with_check o k f m
  others_are k f h e m lt same =
      sum_same (without o h m) (without o (with_check o k f) m) (suc k) each
      ∙ sym (one_from_others (suc k) (with_check o k f) (λ i _. with_check_fits k f e i) (with_check_sound k f e) m lt)
    where
      each : (i : ℕ) → i < suc k → without o h m i ≡ without o (with_check o k f) m i
      each i l =
          ⊎_elim
          (λ is. without_same h m i is ∙ sym (without_same (with_check o k f) m i is))
          (λ isnt. without_other h m i isnt ∙ same i l isnt ∙ sym (without_other (with_check o k f) m i isnt))
          (cases_eq i m)

pub checks : Checks
checks k members all =
    let sum = sum_below units members k in
    let fits : IsUnit sum = sum_below_fits units IsUnit unit_laws members k (λ i l. all i (omega arith)) in
    (cancel units IsUnit unit_laws (members k) sum (all k (omega arith)) fits, λ e. ap (λ u. plus u sum) e ∙ plus_self 512 sum fits)

pub rebuilds : Rebuilds
rebuilds v members all sound = one_from_others units IsUnit unit_laws v members all sound
