-- No byte is summed at first; then one byte more.
use Rattle.std.proofs.Common.{arith}
use Rattle.units.proofs.Sums.{summed_none, summed_more}
use Rattle.units.proofs.unit.add_bytes.Goals as goal

pub loop-i-init : goal.loop-i-init
loop-i-init c = summed_none c.args.target.now c.args.source.now (omega arith) (omega arith)

pub loop-i-preserved : goal.loop-i-preserved
loop-i-preserved c =
    summed_more c.args.target.now c.args.source.now (omega arith) (omega arith)
    c.loop-i.i c.loop-i.target (omega arith) c.loop-i.invariant
