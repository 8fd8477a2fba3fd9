use Rattle.ptk_clock.proofs.ByThread.{kept_new, view_new}
use Rattle.ptk_clock.proofs.threads.ThreadDeadlines.build.Goals as goal

pub invariant_of-result : goal.invariant_of-result
invariant_of-result c =
    kept_new c.in_ok-partitions.slots c.in_ok-queue.queue c.in_ok-partitions.partitions.items c.args.counts.now c.requires.partitions c.requires.threads c.in_ok-queue.ensures c.in_ok-partitions.ensures.0 c.in_ok-partitions.ensures.1

pub returns : goal.returns
returns c = view_new c.in_ok-partitions.slots c.in_ok-queue.queue c.in_ok-partitions.partitions.items c.args.counts.now c.in_ok-queue.ensures c.in_ok-partitions.ensures.0
