-- Mirrored pairs show the placing law. Assumes nothing.
use Rattle.std.specs.Prelude.{◌≡◌, ℕ, ◌/◌, ◌%◌, ◌≤◌}
use Rattle.std.proofs.Common.{arith}
use Rattle.std.proofs.lemmas.Nat.{mod_below}
use Rattle.std.proofs.lemmas.Grind.{common_steps, rows}
use Rattle.layout.specs.Shape.{PlacingLaw}
use Rattle.layout.specs.Tables.{pair}
use Rattle.layout.specs.Rings.{owner_within}

module _ (n R : ℕ) (even : n % 2 ≡ 0) (some : 2 ≤ n) where
  -- the law of these layouts
  pub pair_law : n ≤ 16 → 1 ≤ R → R ≤ 4096 → PlacingLaw (pair n R)
  pair_law few some_rows low = record {
    few_disks = few;
    some_rows = some_rows;
    few_rows = low;
    wide = omega arith;
    narrow = omega arith;
    disk_below = λ m h. omega (arith, mod_below m.stripe (n / 2));
    row_below = λ m h. grind (arith, rows);
    apart = λ m w h k e d. grind arith;
    owned = λ m h. grind (arith, common_steps, rows);
    placed = λ q m e. let o = owner_within n R q _ m e in grind (arith, common_steps, rows);
  }
