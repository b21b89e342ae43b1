-- Worked examples of the three tables, in numbers that a reader can check by hand. Assumes nothing.
use Rattle.std.specs.Prelude.{◌≡◌, ℕ, ◌<◌, Some}
use Rattle.layout.specs.Shape.{found, member_at, place_at}
use Rattle.layout.specs.Tables.{pair, raid5, chain}

pub record PlacingExamples : Type 0 where
  -- RAID-5 of 5 disks, stripe 6: the check on disk 3, members 0 and 1 on disks 4 and 0
  pub raid5_check : (R : ℕ) → 6 < R → found (raid5 5 R) (member_at 6 4) ≡ Some (place_at 3 6)
  pub raid5_member_0 : (R : ℕ) → 6 < R → found (raid5 5 R) (member_at 6 0) ≡ Some (place_at 4 6)
  pub raid5_member_1 : (R : ℕ) → 6 < R → found (raid5 5 R) (member_at 6 1) ≡ Some (place_at 0 6)
  -- a chain of 4 disks and 6 rows, stripe 7: member 0 on disk 3 in row 1, the check on disk 0 in row 4
  pub chain_member_0 : found (chain 4 6) (member_at 7 0) ≡ Some (place_at 3 1)
  pub chain_check : found (chain 4 6) (member_at 7 1) ≡ Some (place_at 0 4)
  -- pairs on 6 disks, stripe 5: disks 4 and 5, row 1
  pub pair_member_0 : (R : ℕ) → 1 < R → found (pair 6 R) (member_at 5 0) ≡ Some (place_at 4 1)
  pub pair_check : (R : ℕ) → 1 < R → found (pair 6 R) (member_at 5 1) ≡ Some (place_at 5 1)
