-- The bytes below i are summed, and those from i on are as they were.
use Rattle.units.proofs.Sums.{Summed}
use Rattle.units.proofs.unit.add_bytes.Given as goal

abbrev pub invariant-loop-i : goal.invariant-loop-i
invariant-loop-i l = Summed l.initial.target l.source l.i l.target
