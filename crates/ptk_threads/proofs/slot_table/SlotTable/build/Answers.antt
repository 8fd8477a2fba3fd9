use Rattle.std.proofs.Common.{◌∙◌, ap, map, refl}
use Rattle.ptk_threads.specs.Links.{threads_of}
use Rattle.ptk_threads.proofs.Linked.{linked_filled, filled_threads, filled_queues}
use Rattle.ptk_threads.proofs.slot_table.SlotTable.build.Goals as goal

pub invariant_of-result : goal.invariant_of-result
invariant_of-result c = rw (c.in_ok-slots.ensures, c.in_ok-ends.ensures) (linked_filled c.args.counts.now 128 refl)

pub returns-clause-threads : goal.returns-clause-threads
returns-clause-threads c = ap (map threads_of) c.in_ok-slots.ensures ∙ filled_threads 0 c.args.counts.now

pub returns-clause-queues : goal.returns-clause-queues
returns-clause-queues c = rw (c.in_ok-slots.ensures, c.in_ok-ends.ensures) (filled_queues 0 c.args.counts.now 128)
