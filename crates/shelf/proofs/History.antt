-- A script's state after a history: its lines, each disk's count, and which disks are gone.
use Rattle.std.proofs.Common.{◌≡◌, ℕ, suc, ◌+◌, ◌<◌, min, ◌⊎◌, List, [], ◌∷◌, length, get_or, Some, None, Decides, Option, sym, refl, ap, ◌∙◌, subst, ap₂, inl, inr, arith, length-set}
use Rattle.std.proofs.lemmas.List.{get_or-replicate, get_or-set_other, length-replicate}
use Rattle.std.proofs.lemmas.Grind.{get_or-set_at}
use Rattle.std.proofs.lemmas.Option.{unwrap_or-slice_get}
use Rattle.std.proofs.lemmas.Bool.{both_ways, cases_Bool, cases_eq, cond-false, cond-true, eq-eqb, false_from_ne_true, false≢true, lt-ltb, ne_eqb}
use Rattle.std.proofs.lemmas.Bool.Decides.{Decides-and, Decides-at, Decides-eqb, Decides-like, Decides-not, Decides-or}
use Rattle.units.specs.Sets.{has}
use Rattle.units.proofs.Sets.{has_none}
use Rattle.shelf.specs.declared.script.Cause.{Cause}
use Rattle.shelf.specs.declared.script.Cause.TheVariants.{Medium, Gone, Late}
use Rattle.shelf.specs.declared.script.FaultLine.{FaultLine}
use Rattle.shelf.specs.declared.script.FaultScript.{FaultScript}
use Rattle.shelf.specs.Script.{BringsBack, count, Counts, due, first_cause, lines, next_count, takes_away, Unused}
use Rattle.shelf.specs.History.{access, accesses, Becomes, Event, FaultsByHistory, GoneSince, next_number, renewal}

-- a disk's count by its place in the counts
count_is : (t : FaultScript) (d : ℕ) → count t d ≡ get_or t.counts d 0
count_is t d = unwrap_or-slice_get t.counts d 0

-- what is known of a script after a history
record After (ls : List FaultLine) (es : List Event) (t : FaultScript) : Type 0 where
  same : lines t ≡ ls
  counts : length t.counts ≡ 32
  counted : (d : ℕ) → d < 32 → count t d ≡ min (accesses d es) 4294967295
  gone : (d : ℕ) → d < 32 → Decides (has t.gone d) (GoneSince ls d es)

at_first : (s : FaultScript) → Unused s → After (lines s) [] s
at_first s n = record {
  same = refl;
  counts = ap length n.counts ∙ length-replicate {A = ℕ} 32 0;
  counted = λ d h. count_is s d ∙ ap (λ xs. get_or xs d 0) n.counts ∙ get_or-replicate {A = ℕ} 32 d 0 0 h;
  gone = λ d h. (λ t. absurd (both_ways _ (ap (λ g. has g d) n.gone ∙ has_none d) t), λ p. absurd p);
}

-- only a fault with the cause `Gone` takes a disk away
takes : (o : Option Cause) → Decides (takes_away o) (o ≡ Some Gone)
takes None = (λ t. absurd (false≢true t), λ e. cc)
takes (Some Medium) = (λ t. absurd (false≢true t), λ e. cc)
takes (Some Gone) = (λ t. refl, λ e. refl)
takes (Some Late) = (λ t. absurd (false≢true t), λ e. cc)

-- the fault that is due, by what is known of the script
module _ (ls : List FaultLine) (es : List Event) (u : FaultScript) (a : After ls es u) (d : ℕ) (h : d < 32) where
  number_is : next_count u d ≡ next_number d es
  number_is = let c = a.counted d h in omega arith

  due_gone : GoneSince ls d es → due u d ≡ Some Gone
  due_gone p = cond-true _ _ _ (lt-ltb d 32 h) ∙ cond-true _ _ _ ((a.gone d h).1 p)

  due_there : (GoneSince ls d es → ⊥) → due u d ≡ first_cause ls d (next_number d es)
  due_there ne =
      cond-true _ _ _ (lt-ltb d 32 h)
      ∙ cond-false _ _ _ (false_from_ne_true (has u.gone d) (λ t. ne ((a.gone d h).0 t)))
      ∙ ap₂ (λ l n. first_cause l d n) a.same number_is

  -- a disk was gone, or not
  since : GoneSince ls d es ⊎ (GoneSince ls d es → ⊥)
  since = elim (cases_Bool (has u.gone d)) [
    | inl t ↦ inl ((a.gone d h).0 t)
    | inr f ↦ inr (λ p. both_ways _ f ((a.gone d h).1 p))
  ]

module _ (ls : List FaultLine) (es : List Event) (u t : FaultScript) (a : After ls es u) (e : ℕ) where
  by_access : Counts u e t → After ls (access e ∷ es) t
  by_access c = record {
    same = c.lines ∙ a.same;
    counts = ap length c.counts ∙ length-set u.counts e (next_count u e) ∙ a.counts;
    counted = λ d h. count_is t d ∙ ap (λ xs. get_or xs d 0) c.counts ∙ elim (cases_eq d e) [
      | inl is ↦
          get_or-set_at u.counts e d (next_count u e) 0 is (let l = a.counts in omega arith)
          ∙ ap (next_count u) (sym is)
          ∙ number_is ls es u a d h
          ∙ ap (λ n. min n 4294967295) (let s : accesses d es + 1 ≡ suc (accesses d es) = omega arith in s ∙ sym (cond-true _ _ _ (eq-eqb d e is)))
      | inr ne ↦
          get_or-set_other u.counts e d (next_count u e) 0 ne
          ∙ sym (count_is u d)
          ∙ a.counted d h
          ∙ ap (λ n. min n 4294967295) (sym (cond-false _ _ _ (ne_eqb d e ne)))
    ];
    gone = λ d h. Decides-like _ (forth d h) (back d h)
        (Decides-at _ _ (c.gone d) (Decides-or _ _ (a.gone d h) (Decides-and _ _ (Decides-eqb d e) (takes (due u e)))));
  }
    where
      -- the fault of this access takes the disk away exactly where its line says so, unless the disk was gone
      forth : (d : ℕ) → d < 32 → GoneSince ls d es ⊎ ((d ≡ e) × (due u e ≡ Some Gone)) → GoneSince ls d (access e ∷ es)
      forth d h (inl was) = inr was
      forth d h (inr p) = elim (since ls es u a d h) [
        | inl was ↦ inr was
        | inr not ↦ inl (p.0, sym (due_there ls es u a d h not) ∙ ap (due u) p.0 ∙ p.1)
      ]

      back : (d : ℕ) → d < 32 → GoneSince ls d (access e ∷ es) → GoneSince ls d es ⊎ ((d ≡ e) × (due u e ≡ Some Gone))
      back d h (inl p) = elim (since ls es u a d h) [
        | inl was ↦ inl was
        | inr not ↦ inr (p.0, ap (due u) (sym p.0) ∙ due_there ls es u a d h not ∙ p.1)
      ]
      back d h (inr was) = inl was

  by_renewal : BringsBack u e t → After ls (renewal e ∷ es) t
  by_renewal c = record {
    same = ap lines c.others ∙ a.same;
    counts = ap (λ s. length s.counts) c.others ∙ a.counts;
    counted = λ d h. ap (λ s. count s d) c.others ∙ a.counted d h;
    gone = λ d h. Decides-like _ (λ p. (p.1, p.0)) (λ p. (p.1, p.0))
        (Decides-at _ _ (c.gone d) (Decides-and _ _ (a.gone d h) (Decides-not _ (Decides-eqb d e))));
  }

after : (s : FaultScript) → Unused s → (es : List Event) (t : FaultScript) → Becomes s es t → After (lines s) es t
after s n [] t is = subst (After (lines s) []) (sym is) (at_first s n)
after s n (access e ∷ es) t (u, (before, last)) = by_access (lines s) es u t (after s n es u before) e last
after s n (renewal e ∷ es) t (u, (before, last)) = by_renewal (lines s) es u t (after s n es u before) e last

pub faults_by_history : FaultsByHistory
faults_by_history s t es n runs d h =
    let a = after s n es t runs in
    (due_gone (lines s) es t a d h, due_there (lines s) es t a d h)
