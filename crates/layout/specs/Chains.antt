-- Chained declustering shows the placing law. Assumes nothing.
use Rattle.std.specs.Prelude.{◌≡◌, ℕ, zero, suc, ◌+◌, ◌-◌, ◌*◌, ◌/◌, ◌%◌, ◌<◌, ◌≤◌, Some}
use Rattle.std.proofs.Common.{sym, inl, inr, arith}
use Rattle.std.proofs.Math.Nat.{mod-add-mod}
use Rattle.std.proofs.lemmas.Nat.{div-mul-add, mod-mul-add, mod_below, mul-add-lt}
use Rattle.std.proofs.lemmas.Bool.{cases_lt}
use Rattle.std.proofs.lemmas.Bool.Decides.{nat_tests}
use Rattle.std.proofs.lemmas.Grind.{common_steps, rows}
use Rattle.units.specs.declared.place.Place.{Place}
use Rattle.layout.specs.Shape.{PlacingLaw, IsMember, member_at}
use Rattle.layout.specs.Tables.{chain, chain_member}
use Rattle.layout.specs.Rings.{owner_within, round}

module _ (n R : ℕ) (some : 2 ≤ n) where
  -- the disk of the check is the next one on the ring
  next_disk : (s : ℕ) → (s + 1) % n ≡ (s % n + 1) % n
  next_disk s = sym (mod-add-mod s n 1)

  -- a disk, the next one on the ring, and back
  next_and_back : (s : ℕ) → ((s + 1) % n + n - 1) % n ≡ s % n
  next_and_back s = let b = mod_below s n (omega arith) in let c = next_disk s in grind (arith, round)

  -- a disk, the one before it, and back
  back_and_next : (d : ℕ) → d < n → ((d + n - 1) % n + 1) % n ≡ d
  back_and_next d h = grind (arith, round)

  -- a member's place is owned by it
  chain_owned : (s j : ℕ) → s < n * (R / 2) → j < 2 → (chain n R).owner ((chain n R).place (member_at s j)) ≡ Some (member_at s j)
  chain_owned s zero hs hj = grind (arith, common_steps, rows, nat_tests)
  chain_owned s (suc zero) hs hj = let b = next_and_back s in grind (arith, common_steps, rows, nat_tests)
  chain_owned s (suc (suc j)) hs hj = absurd (omega arith)

  -- the stripe whose member 0 is on disk d in row r, and that place from its number
  original : (r d : ℕ) → r < R / 2 → d < n → (r * n + d < n * (R / 2)) × ((r * n + d) / n ≡ r) × ((r * n + d) % n ≡ d)
  original r d hr hd = (mul-add-lt r n d (R / 2) hr hd, div-mul-add r n d hd, mod-mul-add r n d hd)

  -- the member at a place stands there
  chain_placed : (q : Place) → q.disk < n → q.row < R / 2 + R / 2
      → IsMember (chain n R) (chain_member n R q) × ((chain n R).place (chain_member n R q) ≡ q)
  chain_placed q hd hr = elim (cases_lt q.row (R / 2)) [
    | inl l ↦ let o = original q.row q.disk l hd in grind (arith, nat_tests)
    | inr g ↦
        let before = (q.disk + n - 1) % n in
        let o = original (q.row - R / 2) before (omega arith) (mod_below (q.disk + n - 1) n (omega arith)) in
        let next = next_disk ((q.row - R / 2) * n + before) in
        let back = back_and_next q.disk hd in grind (arith, nat_tests)
  ]

  -- the law of these layouts
  pub chain_law : n ≤ 16 → 2 ≤ R → R ≤ 4096 → PlacingLaw (chain n R)
  chain_law few some_rows low = record {
    few_disks = few;
    some_rows = omega arith;
    few_rows = low;
    wide = omega arith;
    narrow = omega arith;
    disk_below = λ m h. grind (arith, common_steps, rows);
    row_below = λ m h. grind (arith, common_steps, rows);
    apart = λ m w h k e d. let b = mod_below m.stripe n (omega arith) in let c = next_disk m.stripe in grind (arith, nat_tests, round);
    owned = λ m h. chain_owned m.stripe m.index h.0 h.1;
    placed = λ q m e. let o = owner_within n (R / 2 + R / 2) q _ m e in let p = chain_placed q o.0.0 o.0.1 in grind arith;
  }
