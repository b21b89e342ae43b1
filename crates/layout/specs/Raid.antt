-- Left-symmetric RAID-5 shows the placing law. Assumes nothing.
use Rattle.std.specs.Prelude.{◌≡◌, ℕ, ◌<◌, ◌≤◌}
use Rattle.std.proofs.Common.{arith}
use Rattle.std.proofs.lemmas.Nat.{mod_below}
use Rattle.std.proofs.lemmas.Bool.Decides.{nat_tests}
use Rattle.std.proofs.lemmas.Grind.{common_steps}
use Rattle.layout.specs.Shape.{PlacingLaw}
use Rattle.layout.specs.Tables.{raid5, raid5_disk, raid5_member}
use Rattle.layout.specs.Rings.{owner_within, round}

module _ (n R : ℕ) (some : 3 ≤ n) where
  -- a member's disk is one of the n
  disk_there : (s j : ℕ) → j < n → raid5_disk n s j < n
  disk_there s j h = grind (arith, nat_tests, mod_below)

  -- the member on a member's disk is that member
  back : (s j : ℕ) → j < n → raid5_member n s (raid5_disk n s j) ≡ j
  back s j h = let m = mod_below s n (omega arith) in grind (arith, nat_tests, round)

  -- the disk of a disk's member is that disk
  there : (s d : ℕ) → d < n → raid5_disk n s (raid5_member n s d) ≡ d
  there s d h = let m = mod_below s n (omega arith) in grind (arith, nat_tests, round)

  -- a disk's member is one of the n
  member_there : (s d : ℕ) → d < n → raid5_member n s d < n
  member_there s d h = grind (arith, nat_tests, mod_below)

  -- the law of these layouts
  pub raid5_law : n ≤ 8 → 1 ≤ R → R ≤ 4096 → PlacingLaw (raid5 n R)
  raid5_law few rows low = record {
    few_disks = omega arith;
    some_rows = rows;
    few_rows = low;
    wide = omega arith;
    narrow = few;
    disk_below = λ m h. disk_there m.stripe m.index h.1;
    row_below = λ m h. h.0;
    apart = λ m w h k s d. let x = back m.stripe m.index h.1 in let y = back w.stripe w.index k.1 in grind arith;
    owned = λ m h. grind (arith, common_steps, nat_tests, back, disk_there);
    placed = λ q m e. let o = owner_within n R q _ m e in grind (arith, there, member_there);
  }
