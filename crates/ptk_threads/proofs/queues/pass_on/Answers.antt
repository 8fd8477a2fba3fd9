use Rattle.ptk_threads.specs.Links.{links_of}
use Rattle.ptk_threads.proofs.Lists.{unqueued_mark}
use Rattle.ptk_threads.proofs.queues.pass_on.Goals as goal

pub append-requires-clause-free : goal.append-requires-clause-free
append-requires-clause-free c =
    unqueued_mark (links_of c.take_from.new.slots) c.take_from.new.ends c.args.k c.take_from.ensures.queues (λ i. rw c.take_from.ensures.lists (c.requires.free i))
