-- Each call of a shelf, seen from one place and one disk; then over lists of calls.
use Rattle.std.proofs.Common.{◌≡◌, ℕ, ◌<◌, ◌≤◌, Bool, true, false, cond, eqb, ◌⊎◌, List, [], ◌∷◌, length, Some, Ok, Err, Option, sym, refl, ap, ◌∙◌, subst, inl, inr, arith}
use mathlib.Core.Logic.{⊎_map}
use Rattle.std.proofs.lemmas.Bool.{cases_eq, cases_lt, cond_both, cond-false, cond-true, eq-eqb, ne_eqb}
use Rattle.std.proofs.lemmas.Option.{none-some, same_Some}
use Rattle.denial.specs.declared.fault.ShelfFault.{ShelfFault}
use Rattle.units.specs.declared.place.Place.{Place}
use Rattle.shelf.specs.Meaning.{Answer, DiskFault, first_of, Marked, Meaning, out_of_range, Reads, Renewed, Renews, Spoilt, Stored, Within, Writes}
use Rattle.shelf.proofs.Equal.{by_number, this_place}
use Rattle.shelf.specs.Runs.{Call, Goes, known, marked_after, marked_by, read, Remembers, renew, Runs, write}

-- an access is in range or not
within : (disks rows : ℕ) (p : Place) (n : ℕ) → Within disks rows p n ⊎ (Within disks rows p n → ⊥)
within disks rows p n = elim (cases_lt p.disk disks) [
  | inl h ↦ elim (cases_lt p.row rows) [
    | inl k ↦ elim (cases_eq n 512) [
      | inl u ↦ inl (record { disk = h; row = k; unit = u })
      | inr u ↦ inr (λ w. u w.unit)
    ]
    | inr k ↦ inr (λ w. omega (arith, w.row))
  ]
  | inr h ↦ inr (λ w. omega (arith, w.disk))
]

-- a served answer is given in range, and a fault in range has not the code of one out of range
module _ (p : Place) (In P : Type 0) (which : In ⊎ (In → ⊥)) (inside : In → P) where
  served : (u : Unit {0}) → ((In → ⊥) → Ok u ≡ out_of_range p) → P
  served u outside = elim which [
    | inl w ↦ inside w
    | inr o ↦ let e = outside o in cc
  ]

  faulted : (f : ShelfFault) → (P → 2 ≤ f.code) → ((In → ⊥) → Err f ≡ out_of_range p)
      → ((eqb f.code 1 ≡ false) × P) ⊎ ((eqb f.code 1 ≡ true) × (In → ⊥))
  faulted f low outside = elim which [
    | inl w ↦ let done = inside w in inl (ne_eqb f.code 1 (λ e. omega (arith, low done)), done)
    | inr o ↦ inr (eq-eqb f.code 1 (ap (λ x. x.code) (same_fault (outside o))), o)
  ]
    where
      same_fault : {x y : ShelfFault} → ◌≡◌ {A = Answer} (Err x) (Err y) → x ≡ y
      same_fault e = cc

-- a test that decides nothing
either : {A : Type 0} (b : Bool) (x : A) → x ≡ cond b x x
either b x = cond_both b x x (λ y. x ≡ y) (λ _. refl) (λ _. refl)

-- the place's bytes in m are those that are known, if any are
Holds : Meaning → Place → Option (List ℕ) → Type 0
Holds m p k = (bs : List ℕ) → k ≡ Some bs → m.bytes p ≡ bs

-- what is left of a fault: a change that only a fault in range makes, or none
Left : ShelfFault → Type 0 → Meaning → Meaning → Type 0
Left f Change n m = ((eqb f.code 1 ≡ false) × Change) ⊎ ((eqb f.code 1 ≡ true) × (m ≡ n))

module _ (f : ShelfFault) (Change : Type 0) (n m : Meaning) (left : Left f Change n m) where
  -- a disk's mark after a fault of disk e
  left_mark : (d e : ℕ) (b : Bool) → n.mark d ≡ b → (Change → m.mark e ≡ true)
      → (Change → (g : ℕ) → (g ≡ e → ⊥) → m.mark g ≡ n.mark g) → m.mark d ≡ cond (eqb d e) (marked_by (Err f) b) b
  unfolding Left
  left_mark d e b was there others = elim left [
    | inl p ↦ by_number d e _ _ _ (λ is. ap m.mark is ∙ there p.1 ∙ sym (cond-false _ _ _ p.0)) (λ ne. others p.1 d ne ∙ was)
    | inr p ↦ let same = ap (λ x. x.mark d) p.1 ∙ was in by_number d e _ _ _ (λ is. same ∙ sym (cond-true _ _ _ p.0)) (λ ne. same)
  ]

  -- what holds of the change, and where there is none
  left_either : (P : Meaning → Type 0) → (Change → P m) → P n → P m
  unfolding Left
  left_either P change none = elim left [ inl p ↦ change p.1 | inr p ↦ subst P (sym p.1) none ]

-- ---- each call by its answer

module _ (n m : Meaning) (q : Place) (before after : List ℕ) where
  read_served : (u : Unit {0}) → Reads n q before (Ok u) after m → m ≡ n
  read_served u h = (served q _ _ (within n.disks n.rows q (length before)) h.inside u (λ o. (h.outside o).0)).1

  read_handed : (u : Unit {0}) → Reads n q before (Ok u) after m → after ≡ n.bytes q
  read_handed u h = (served q _ _ (within n.disks n.rows q (length before)) h.inside u (λ o. (h.outside o).0)).0

  read_faulted : (f : ShelfFault) → Reads n q before (Err f) after m → Left f (Marked n q.disk m) n m
  unfolding Left
  read_faulted f h = ⊎_map (λ p. (p.0, p.1.2)) (λ p. (p.0, (h.outside p.1).2))
      (faulted q _ (DiskFault q f × (after ≡ before) × Marked n q.disk m) (within n.disks n.rows q (length before)) h.inside f
      (λ p. p.0.low) (λ o. (h.outside o).0))

module _ (n m : Meaning) (q : Place) (us : List ℕ) where
  write_served : (u : Unit {0}) → Writes n q us (Ok u) m → Stored n q us m
  write_served u h = served q _ _ (within n.disks n.rows q (length us)) h.inside u (λ o. (h.outside o).0)

  write_faulted : (f : ShelfFault) → Writes n q us (Err f) m → Left f (Spoilt n q m) n m
  unfolding Left
  write_faulted f h = ⊎_map (λ p. (p.0, p.1.1)) (λ p. (p.0, (h.outside p.1).1))
      (faulted q _ (DiskFault q f × Spoilt n q m) (within n.disks n.rows q (length us)) h.inside f
      (λ p. p.0.low) (λ o. (h.outside o).0))

-- a disk is one of the shelf's or not
a_disk : (d disks : ℕ) → (d < disks) ⊎ (d < disks → ⊥)
a_disk d disks = ⊎_map (λ h. h) (λ h k. omega arith) (cases_lt d disks)

module _ (n m : Meaning) (e : ℕ) where
  renew_served : (u : Unit {0}) → Renews n e (Ok u) m → Renewed n e m
  renew_served u h = served (first_of e) _ _ (a_disk e n.disks) h.inside u (λ o. (h.outside o).0)

  renew_faulted : (f : ShelfFault) → Renews n e (Err f) m → Left f (Marked n e m) n m
  unfolding Left
  renew_faulted f h = ⊎_map (λ p. (p.0, p.1.1)) (λ p. (p.0, (h.outside p.1).1))
      (faulted (first_of e) _ (DiskFault (first_of e) f × Marked n e m) (a_disk e n.disks) h.inside f
      (λ p. p.0.low) (λ o. (h.outside o).0))

-- ---- one call more, seen from one place and one disk

bytes_step : (n m : Meaning) (c : Call) → Goes n c m → (p : Place) (first : Place → List ℕ) (cs : List Call) → Holds n p (known first p cs) → Holds m p (known first p (c ∷ cs))
unfolding Holds Left
bytes_step n m (read q before (Ok u) after) h p first cs holds bs is =
    ap (λ x. x.bytes p) (read_served n m q before after u h) ∙ holds bs is
bytes_step n m (read q before (Err f) after) h p first cs holds bs is =
    left_either f _ n m (read_faulted n m q before after f h) (λ x. x.bytes p ≡ n.bytes p) (λ done. done.bytes p) refl ∙ holds bs is
bytes_step n m (write q us (Ok u)) h p first cs holds bs is =
    let s = write_served n m q us u h in
    elim (this_place p q) [
      | inl at ↦ ap m.bytes at.0 ∙ s.there ∙ same_Some _ _ (sym (cond-true _ _ _ at.1) ∙ is)
      | inr ne ↦ s.elsewhere p ne.0 ∙ holds bs (sym (cond-false _ _ _ ne.1) ∙ is)
    ]
bytes_step n m (write q us (Err f)) h p first cs holds bs is =
    elim (write_faulted n m q us f h) [
      | inl w ↦ elim (this_place p q) [
        | inl at ↦ absurd (none-some _ (sym (cond-false _ _ _ w.0) ∙ sym (cond-true _ _ _ at.1) ∙ is))
        | inr ne ↦ w.1.elsewhere p ne.0 ∙ holds bs (sym (cond-false _ _ _ ne.1) ∙ is)
      ]
      | inr w ↦ ap (λ x. x.bytes p) w.1 ∙ holds bs (elim (this_place p q) [
        | inl at ↦ sym (cond-true _ _ _ w.0) ∙ sym (cond-true _ _ _ at.1) ∙ is
        | inr ne ↦ sym (cond-false _ _ _ ne.1) ∙ is
      ])
    ]
bytes_step n m (renew e (Ok u)) h p first cs holds bs is =
    elim (cases_eq p.disk e) [
      | inl at ↦ absurd (none-some _ (sym (cond-true _ _ _ (eq-eqb p.disk e at)) ∙ is))
      | inr ne ↦ (renew_served n m e u h).elsewhere p ne ∙ holds bs (sym (cond-false _ _ _ (ne_eqb p.disk e ne)) ∙ is)
    ]
bytes_step n m (renew e (Err f)) h p first cs holds bs is =
    left_either f _ n m (renew_faulted n m e f h) (λ x. x.bytes p ≡ n.bytes p) (λ done. done.bytes p) refl ∙ holds bs (either (eqb p.disk e) _ ∙ is)

mark_step : (n m : Meaning) (c : Call) → Goes n c m → (d : ℕ) (first : ℕ → Bool) (cs : List Call) → n.mark d ≡ marked_after first d cs → m.mark d ≡ marked_after first d (c ∷ cs)
unfolding Left
mark_step n m (read q before (Ok u) after) h d first cs was =
    ap (λ x. x.mark d) (read_served n m q before after u h) ∙ was ∙ either (eqb d q.disk) _
mark_step n m (read q before (Err f) after) h d first cs was =
    left_mark f _ n m (read_faulted n m q before after f h) d q.disk _ was (λ p. p.there) (λ p. p.others)
mark_step n m (write q us (Ok u)) h d first cs was =
    (write_served n m q us u h).marks d ∙ was ∙ either (eqb d q.disk) _
mark_step n m (write q us (Err f)) h d first cs was =
    left_mark f _ n m (write_faulted n m q us f h) d q.disk _ was (λ p. p.there) (λ p. p.others)
mark_step n m (renew e (Ok u)) h d first cs was =
    let s = renew_served n m e u h in
    by_number d e _ _ _ (λ is. ap m.mark is ∙ s.there) (λ ne. s.others d ne ∙ was)
mark_step n m (renew e (Err f)) h d first cs was =
    left_mark f _ n m (renew_faulted n m e f h) d e _ was (λ p. p.there) (λ p. p.others)

SameNumbers : Meaning → Meaning → Type 0
SameNumbers n m = (m.disks ≡ n.disks) × (m.rows ≡ n.rows)

same_numbers : (n m : Meaning) → m ≡ n → SameNumbers n m
unfolding SameNumbers
same_numbers n m e = (ap (λ x. x.disks) e, ap (λ x. x.rows) e)

numbers_step : (n m : Meaning) (c : Call) → Goes n c m → SameNumbers n m
unfolding SameNumbers Left
numbers_step n m (read q before (Ok u) after) h = same_numbers n m (read_served n m q before after u h)
numbers_step n m (read q before (Err f) after) h = left_either f _ n m (read_faulted n m q before after f h) (SameNumbers n) (λ p. (p.disks, p.rows)) (refl, refl)
numbers_step n m (write q us (Ok u)) h = let s = write_served n m q us u h in (s.disks, s.rows)
numbers_step n m (write q us (Err f)) h = left_either f _ n m (write_faulted n m q us f h) (SameNumbers n) (λ p. (p.disks, p.rows)) (refl, refl)
numbers_step n m (renew e (Ok u)) h = let s = renew_served n m e u h in (s.disks, s.rows)
numbers_step n m (renew e (Err f)) h = left_either f _ n m (renew_faulted n m e f h) (SameNumbers n) (λ p. (p.disks, p.rows)) (refl, refl)

-- ---- lists of calls

bytes_known : (m m' : Meaning) (cs : List Call) → Runs m cs m' → (p : Place) → Holds m' p (known m.bytes p cs)
unfolding Holds
bytes_known m m' [] is p bs k = ap (λ x. x.bytes p) is ∙ same_Some _ _ k
bytes_known m m' (c ∷ cs) (n, (before, last)) p bs k = bytes_step n m' c last p m.bytes cs (bytes_known m n cs before p) bs k

marks_told : (m m' : Meaning) (cs : List Call) → Runs m cs m' → (d : ℕ) → m'.mark d ≡ marked_after m.mark d cs
marks_told m m' [] is d = ap (λ x. x.mark d) is
marks_told m m' (c ∷ cs) (n, (before, last)) d = mark_step n m' c last d m.mark cs (marks_told m n cs before d)

numbers_kept : (m m' : Meaning) (cs : List Call) → Runs m cs m' → SameNumbers m m'
unfolding SameNumbers
numbers_kept m m' [] is = same_numbers m m' is
numbers_kept m m' (c ∷ cs) (n, (before, last)) =
    let a = numbers_kept m n cs before in
    let b = numbers_step n m' c last in
    (b.0 ∙ a.0, b.1 ∙ a.1)

handed_out : (m m' : Meaning) (cs : List Call) (p : Place) (before after bs : List ℕ)
    → Runs m (read p before (Ok tt) after ∷ cs) m' → known m.bytes p cs ≡ Some bs → after ≡ bs
unfolding Holds
handed_out m m' cs p before after bs (n, (run, last)) k = read_handed n m' p before after tt last ∙ bytes_known m n cs run p bs k

pub remembers : Remembers
unfolding Holds SameNumbers
remembers = record {
  told = λ m m' cs run. let same = numbers_kept m m' cs run in
      record { disks = same.0; rows = same.1; bytes = bytes_known m m' cs run; marks = marks_told m m' cs run };
  handed_out = handed_out;
}
