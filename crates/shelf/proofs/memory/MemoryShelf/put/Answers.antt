use Rattle.std.proofs.Common.{vec_items, arith}
use Rattle.std.proofs.lemmas.Grind.{common_steps}
use Rattle.shelf.proofs.Places.{stored}
use Rattle.shelf.proofs.memory.MemoryShelf.put.Goals as goal

pub returns-clause-stored : goal.returns-clause-stored
returns-clause-stored c =
    let s = c.args.self.now in
    stored s.extent.disks s.extent.rows (vec_items s.bytes) c.args.unit.now _ c.args.place (omega arith) c.requires (grind (arith, common_steps))
