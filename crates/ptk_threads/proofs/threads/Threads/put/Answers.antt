use Rattle.std.proofs.Common.{ap}
use Rattle.ptk_threads.specs.Queues.{LinkedThreads}
use Rattle.ptk_threads.proofs.Timed.{kept_put}
use Rattle.ptk_threads.proofs.threads.Threads.put.Goals as goal

pub invariant_of-self : goal.invariant_of-self
invariant_of-self c =
    kept_put c.args.p c.args.k c.args.thread c.self.inside.slots.threads c.put.new.self.threads c.self.inside.stored c.self.inside.deadlines c.follow.new.deadlines
    (ap (λ (t : LinkedThreads). t.threads) c.put.ensures) c.follow.ensures c.self.invariant
