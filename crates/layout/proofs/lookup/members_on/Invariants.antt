use Rattle.std.proofs.Common.{ℕ, ◌<◌, IsTrue, ◌↔◌}
use Rattle.units.specs.Sets.{has}
use Rattle.layout.specs.Shape.{OnDisk, member_at}
use Rattle.layout.proofs.lookup.members_on.Given as goal

-- the members below the index that stand on the disk
abbrev pub invariant-loop-index : goal.invariant-loop-index
invariant-loop-index g l =
    (j : ℕ) → IsTrue (has l.members j) ↔ ((j < l.index) × OnDisk (g.L.Layout.shape l.layout) (member_at l.stripe j) l.disk)
