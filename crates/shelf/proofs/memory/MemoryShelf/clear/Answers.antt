use Rattle.std.proofs.Common.{vec_items, arith}
use Rattle.std.proofs.lemmas.Grind.{common_steps}
use Rattle.shelf.proofs.Places.{renewed, zeroed}
use Rattle.shelf.proofs.memory.MemoryShelf.clear.Goals as goal

pub returns-clause-renewed : goal.returns-clause-renewed
returns-clause-renewed c =
    let s = c.args.self.now in
    renewed s.extent.disks s.extent.rows (vec_items s.bytes) _ c.args.disk (omega arith) c.requires (grind (arith, common_steps))

pub returns-clause-zeroed : goal.returns-clause-zeroed
returns-clause-zeroed c =
    let s = c.args.self.now in
    zeroed s.extent.disks s.extent.rows (vec_items s.bytes) _ c.args.disk (omega arith) c.requires (grind (arith, common_steps))
