use Rattle.ptk_clock.proofs.LeastDeadlines.{least_is}
use Rattle.ptk_clock.proofs.threads.least_in.Goals as goal

pub returns : goal.returns
returns c = least_is c.first.result c.args.slots.first c.last.result c.args.slots.count c.args.queue.now.pairs c.least.result c.first.ensures c.last.ensures c.least.ensures.value c.least.ensures.least
