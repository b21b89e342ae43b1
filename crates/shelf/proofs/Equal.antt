-- From what holds at each place and of each mark to an equation of meanings.
use Rattle.std.proofs.Common.{◌≡◌, ℕ, true, false, cond, ◌&&◌, eqb, ◌⊎◌, List, sym, refl, ap, ◌∙◌, inl, inr, ◌≢◌}
use mathlib.Core.Path.{fun_ext}
use Rattle.std.proofs.lemmas.Bool.{and_from, and_parts, both_ways, cases_Bool, cases_eq, cond-false, cond-true, eq-eqb, eqb-true, ne_eqb}
use Rattle.units.specs.declared.place.Place.{Place}
use Rattle.shelf.specs.Changes.{ExactChanges, with_bytes}
use Rattle.shelf.specs.Meaning.{Meaning}

-- two meanings are equal that agree at each place and mark
pub same_meaning : (m n : Meaning) → m.disks ≡ n.disks → m.rows ≡ n.rows
    → ((p : Place) → m.bytes p ≡ n.bytes p) → ((d : ℕ) → m.mark d ≡ n.mark d) → m ≡ n
same_meaning m n a b c d =
    λ i. record { disks = a i; rows = b i; bytes = fun_ext c i; mark = fun_ext d i }

-- a value by whether two numbers are equal
pub by_number : {A : Type 0} (d e : ℕ) (x y z : A) → (d ≡ e → z ≡ x) → ((d ≡ e → ⊥) → z ≡ y) → z ≡ cond (eqb d e) x y
by_number d e x y z here elsewhere = elim (cases_eq d e) [
  | inl is ↦ here is ∙ sym (cond-true _ _ _ (eq-eqb d e is))
  | inr ne ↦ elsewhere ne ∙ sym (cond-false _ _ _ (ne_eqb d e ne))
]

-- two places are equal that name the same disk and row
pub same_place : (p q : Place) → p.disk ≡ q.disk → p.row ≡ q.row → p ≡ q
same_place p q a b = λ i. record { disk = a i; row = b i }

-- a place is this one, or not
pub this_place : (p q : Place) → ((p ≡ q) × ((eqb p.disk q.disk && eqb p.row q.row) ≡ true)) ⊎ ((p ≢ q) × ((eqb p.disk q.disk && eqb p.row q.row) ≡ false))
this_place p q = elim (cases_Bool (eqb p.disk q.disk && eqb p.row q.row)) [
  | inl t ↦ let both = and_parts (eqb p.disk q.disk) (eqb p.row q.row) t in
      inl (same_place p q (eqb-true p.disk q.disk both.0) (eqb-true p.row q.row both.1), t)
  | inr f ↦ inr (λ e. both_ways _ f (and_from _ _ (eq-eqb p.disk q.disk (ap (λ x. x.disk) e)) (eq-eqb p.row q.row (ap (λ x. x.row) e))), f)
]

-- a function that is x at d, and as g elsewhere
at_one : {A : Type 0} (d : ℕ) (x : A) (g f : ℕ → A) → f d ≡ x → ((e : ℕ) → (e ≡ d → ⊥) → f e ≡ g e)
    → (e : ℕ) → f e ≡ cond (eqb e d) x (g e)
at_one d x g f there elsewhere e = by_number e d x (g e) (f e) (λ is. ap f is ∙ there) (elsewhere e)

-- the bytes bs at one place, and those of m elsewhere
at_place : (m : Meaning) (p : Place) (bs : List ℕ) (f : Place → List ℕ)
    → f p ≡ bs → ((q : Place) → q ≢ p → f q ≡ m.bytes q) → (q : Place) → f q ≡ (with_bytes m p bs).bytes q
at_place m p bs f there elsewhere q = elim (this_place q p) [
  | inl is ↦ ap f is.0 ∙ there ∙ sym (cond-true _ _ _ is.1)
  | inr ne ↦ elsewhere q ne.0 ∙ sym (cond-false _ _ _ ne.1)
]

pub exact_changes : ExactChanges
exact_changes = record {
  stored = λ m p bs m' h. same_meaning _ _ h.disks h.rows (at_place m p bs m'.bytes h.there h.elsewhere) h.marks;
  marked = λ m d m' h. same_meaning _ _ h.disks h.rows h.bytes (at_one d true m.mark m'.mark h.there h.others);
  spoilt = λ m p m' h. same_meaning _ _ h.disks h.rows
      (at_place m p (m'.bytes p) m'.bytes refl h.elsewhere)
      (at_one p.disk true m.mark m'.mark h.there h.others);
  renewed = λ m d m' h. same_meaning _ _ h.disks h.rows
      (λ q. by_number q.disk d _ _ _ (λ is. refl) (h.elsewhere q))
      (at_one d false m.mark m'.mark h.there h.others);
}
