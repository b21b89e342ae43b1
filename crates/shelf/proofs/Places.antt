-- What a change of a memory shelf's bytes leaves at each place.
use Rattle.std.specs.Prelude.{◌≡◌, ℕ, ◌+◌, ◌-◌, ◌*◌, ◌<◌, ◌≤◌, ◌&&◌, ◌⊎◌, List, ◌++◌, length, take, drop, replicate, ◌≢◌, nat_lt, refl}
use Rattle.std.proofs.Common.{sym, ap, ◌∙◌, inl, inr, arith, length-append, length-drop}
use Rattle.std.proofs.lemmas.List.{append_assoc, drop-append-le, drop_at, drop-drop, drop-replicate, drop-take, length-take-le, take-append-le, take-replicate, take-take, length-replicate}
use Rattle.std.proofs.lemmas.Nat.{row_fits, same_from_place}
use Rattle.std.proofs.lemmas.Bool.{ltb-true, cases_order, cases_Bool, and_parts, cond-true, cond-false}
use Rattle.units.specs.Units.{unit_at, with_unit, zeros}
use Rattle.units.proofs.Pools.{unit_at_other, unit_at_same}
use Rattle.units.specs.declared.place.Place.{Place}
use Rattle.shelf.proofs.Equal.{same_place}
use Rattle.shelf.specs.Meaning.{Renewed, Stored, Within}
use Rattle.shelf.specs.Memory.{bytes_at, memory, with_zeros, Zeroed}
use Rattle.shelf.specs.Places.{in_range, place_fits}

-- places have different numbers
pub places_apart : (R : ℕ) (p q : Place) → p.row < R → q.row < R → q ≢ p → q.disk * R + q.row ≢ p.disk * R + p.row
places_apart R p q h k ne same =
    let e = same_from_place q.disk q.row p.disk p.row R k h same in ne (same_place q p e.0 e.1)

-- two lists of bytes that agree on a place's unit hold the same there
pub same_bytes : (n R : ℕ) (bs cs : List ℕ) (p : Place)
    → (p.disk < n → p.row < R → unit_at cs (p.disk * R + p.row) ≡ unit_at bs (p.disk * R + p.row))
    → bytes_at n R cs p ≡ bytes_at n R bs p
same_bytes n R bs cs p h = elim (cases_Bool (nat_lt p.disk n && nat_lt p.row R)) [
  | inl t ↦ let both = and_parts (nat_lt p.disk n) (nat_lt p.row R) t in
      cond-true _ _ _ t ∙ h (ltb-true p.disk n both.0) (ltb-true p.row R both.1) ∙ sym (cond-true _ _ _ t)
  | inr f ↦ cond-false _ _ _ f ∙ sym (cond-false _ _ _ f)
]

-- another unit at a place's number is other bytes at that place, and the same everywhere else
pub stored : (n R : ℕ) (bs us cs : List ℕ) (p : Place) → n * R * 512 ≤ length bs → Within n R p (length us)
    → cs ≡ with_unit bs (p.disk * R + p.row) us → Stored (memory n R bs) p us (memory n R cs)
stored n R bs us cs p whole w is =
    let i = p.disk * R + p.row in
    let fits = place_fits n R bs whole p.disk p.row w.disk w.row in
    let unit : (j : ℕ) → unit_at cs j ≡ unit_at (with_unit bs i us) j = λ j. ap (λ zs. unit_at zs j) is in
    record {
      disks = refl;
      rows = refl;
      there = in_range n R cs p w.disk w.row ∙ unit i ∙ unit_at_same bs us i fits w.unit;
      elsewhere = λ q ne. same_bytes n R bs cs q (λ h k.
          unit (q.disk * R + q.row)
          ∙ unit_at_other bs us i fits w.unit (q.disk * R + q.row) (place_fits n R bs whole q.disk q.row h k) (places_apart R p q w.row k ne));
      marks = λ _. refl;
    }

module _ (bs : List ℕ) (i n : ℕ) (fits : i * 512 + n * 512 ≤ length bs) where
  front : length (take (i * 512) bs) ≡ i * 512
  front = length-take-le (i * 512) bs (omega arith)

  -- a unit of the zeros
  pub unit_of_zeros : (j : ℕ) → j < n → unit_at (with_zeros bs i n) (i + j) ≡ zeros
  unit_of_zeros j h =
      let at : (i + j) * 512 ≡ i * 512 + j * 512 = omega arith in
      let m : 512 ≤ length (drop (j * 512) (replicate {A = ℕ} (n * 512) 0)) = simp (length-drop, length-replicate) (omega arith) in
      let o : j * 512 ≤ length (replicate {A = ℕ} (n * 512) 0) = simp length-replicate (omega arith) in
      ap (λ a. take 512 (drop a (with_zeros bs i n))) at
      ∙ ap (take 512) (sym (drop-drop (j * 512) (i * 512) (with_zeros bs i n))
      ∙ ap (drop (j * 512)) (drop_at (take (i * 512) bs) _ (i * 512) front)
      ∙ drop-append-le (j * 512) (replicate (n * 512) 0) (drop (i * 512 + n * 512) bs) o)
      ∙ take-append-le 512 (drop (j * 512) (replicate (n * 512) 0)) _ m
      ∙ ap (take 512) (drop-replicate (j * 512) (n * 512) 0)
      ∙ take-replicate 512 (n * 512 - j * 512) 0 (omega arith)

  -- a unit beside the zeros
  pub unit_beside_zeros : (j : ℕ) → (j < i) ⊎ (i + n ≤ j) → unit_at (with_zeros bs i n) j ≡ unit_at bs j
  unit_beside_zeros j (inl below) =
      sym (drop-take (j * 512) 512 (with_zeros bs i n))
      ∙ ap (drop (j * 512)) (take-append-le (j * 512 + 512) (take (i * 512) bs) _ (omega (arith, front)) ∙ take-take (j * 512 + 512) (i * 512) bs (omega arith))
      ∙ drop-take (j * 512) 512 bs
  unit_beside_zeros j (inr above) =
      let e : j * 512 ≡ (i * 512 + n * 512) + (j * 512 - (i * 512 + n * 512)) = omega arith in
      let whole : length (take (i * 512) bs ++ replicate (n * 512) 0) ≡ i * 512 + n * 512 = simp (length-append, length-replicate) (omega (arith, front)) in
      ap (take 512)
      (ap (λ a. drop a (with_zeros bs i n)) e
      ∙ sym (drop-drop (j * 512 - (i * 512 + n * 512)) (i * 512 + n * 512) (with_zeros bs i n))
      ∙ ap (drop (j * 512 - (i * 512 + n * 512))) (ap (drop (i * 512 + n * 512)) (sym (append_assoc (take (i * 512) bs) (replicate (n * 512) 0) _)) ∙ drop_at (take (i * 512) bs ++ replicate (n * 512) 0) _ (i * 512 + n * 512) whole)
      ∙ drop-drop (j * 512 - (i * 512 + n * 512)) (i * 512 + n * 512) bs
      ∙ ap (λ a. drop a bs) (sym e))

-- the bytes of a disk lie within the shelf's
pub disk_fits : (n R : ℕ) (bs : List ℕ) (d : ℕ) → n * R * 512 ≤ length bs → d < n → d * R * 512 + R * 512 ≤ length bs
disk_fits n R bs d whole h = omega (arith, row_fits d R n R h (omega arith))

module _ (n R : ℕ) (bs cs : List ℕ) (d : ℕ) (whole : n * R * 512 ≤ length bs) (h : d < n) (is : cs ≡ with_zeros bs (d * R) R) where
  fits : d * R * 512 + R * 512 ≤ length bs
  fits = disk_fits n R bs d whole h

  pub zeroed : Zeroed (memory n R cs) d
  zeroed p at k =
      in_range n R cs p (omega arith) k
      ∙ ap (λ e. unit_at cs (e * R + p.row)) at
      ∙ ap (λ zs. unit_at zs (d * R + p.row)) is
      ∙ unit_of_zeros bs (d * R) R fits p.row k

  -- a place lies beside another disk
  beside : (e q : ℕ) → q < R → (e ≢ d) → (e * R + q < d * R) ⊎ (d * R + R ≤ e * R + q)
  beside e q k ne = elim (cases_order e d) [
    | inl same ↦ absurd (ne same)
    | inr o ↦ elim o [ inl l ↦ inl (omega (arith, row_fits e R d R l (omega arith))) | inr l ↦ inr (omega (arith, row_fits d R e R l (omega arith))) ]
  ]

  -- zeros all over a disk renew it
  pub renewed : Renewed (memory n R bs) d (memory n R cs)
  renewed = record {
    disks = refl;
    rows = refl;
    elsewhere = λ q ne. same_bytes n R bs cs q (λ _ k.
        ap (λ zs. unit_at zs (q.disk * R + q.row)) is
        ∙ unit_beside_zeros bs (d * R) R fits (q.disk * R + q.row) (beside q.disk q.row k ne));
    there = refl;
    others = λ _ _. refl;
  }
