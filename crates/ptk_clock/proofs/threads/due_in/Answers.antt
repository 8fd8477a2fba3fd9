use Rattle.ptk_clock.proofs.LeastDeadlines.{taken_own}
use Rattle.ptk_clock.proofs.threads.due_in.Goals as goal

pub thread_of-requires-clause-low : goal.thread_of-requires-clause-low
thread_of-requires-clause-low c =
    (taken_own c.first.result c.args.slots.first c.last.result c.args.slots.count c.args.now c.args.queue.now.pairs c.due.result (c.in_ok-slot.field-0-0, c.in_ok-slot.slot)
    c.first.ensures c.last.ensures c.due.ensures.due c.in_ok-slot.was).low

pub thread_of-requires-clause-high : goal.thread_of-requires-clause-high
thread_of-requires-clause-high c =
    (taken_own c.first.result c.args.slots.first c.last.result c.args.slots.count c.args.now c.args.queue.now.pairs c.due.result (c.in_ok-slot.field-0-0, c.in_ok-slot.slot)
    c.first.ensures c.last.ensures c.due.ensures.due c.in_ok-slot.was).high
