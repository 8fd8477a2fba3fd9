use Rattle.ptk_threads.proofs.Linked.{listed_at}
use Rattle.ptk_threads.proofs.slot_table.SlotTable.parts.Goals as goal

pub returns-clause-listed : goal.returns-clause-listed
returns-clause-listed c = listed_at c.self.inside.slots c.self.inside.ends c.args.self.now c.parts.result c.self.invariant c.self.view_is c.parts.ensures
