use Rattle.std.proofs.Common.{rules}
use Rattle.layout.proofs.Placing.{one_on_disk}
use Rattle.layout.proofs.lookup.members_on.Goals as goal

pub returns-clause-one : goal.returns-clause-one
returns-clause-one g c =
    one_on_disk _ (g.met.L.Layout.placing c.args.layout.now) c.args.stripe c.args.disk c.loop-index.members (search rules)
