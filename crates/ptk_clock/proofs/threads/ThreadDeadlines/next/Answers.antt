use Rattle.ptk_clock.proofs.ByThread.{within, least_read}
use Rattle.ptk_clock.proofs.threads.ThreadDeadlines.next.Goals as goal

pub slots_at-slots-requires : goal.slots_at-slots-requires
slots_at-slots-requires c = within c.args.p c.self.inside.partitions.items c.deref.result.now c.self.inside.queue.pairs c.args.self.now c.deref.ensures.value c.self.view_is c.requires

pub returns : goal.returns
returns c =
    least_read c.self.inside.queue.slots c.args.p c.self.inside.partitions.items c.deref.result.now c.slots_at-slots.result c.self.inside.queue.pairs c.args.self.now
    c.self.invariant c.deref.ensures.value c.slots_at-slots.ensures c.self.view_is
