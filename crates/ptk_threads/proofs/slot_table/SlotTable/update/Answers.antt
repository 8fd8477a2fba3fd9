use Rattle.ptk_threads.proofs.Linked.{kept_at, used_here}
use Rattle.ptk_threads.proofs.slot_table.SlotTable.update.Goals as goal

pub update_in-requires-clause-in_use : goal.update_in-requires-clause-in_use
update_in-requires-clause-in_use g c = used_here c.self.inside.slots c.self.inside.ends c.args.p c.args.k c.args.self.now c.lend.result.now c.self.view_is c.lend.ensures.value c.requires.in_use

pub invariant_of-self : goal.invariant_of-self
invariant_of-self g c =
    kept_at c.self.inside.slots c.self.inside.ends c.args.p c.args.self.now c.lend.result.now c.update_in.new.slots c.self.invariant c.self.view_is c.requires.partition c.lend.ensures.value c.update_in.ensures.links
