use Rattle.std.proofs.Common.{ap}
use Rattle.ptk_words.specs.declared.threads.Thread.{Thread}
use Rattle.ptk_threads.specs.Queues.{LinkedThreads}
use Rattle.ptk_threads.proofs.Timed.{kept_work, if_some}
use Rattle.ptk_threads.proofs.threads.Threads.work_on.Goals as goal

pub invariant_of-self : goal.invariant_of-self
invariant_of-self g c =
    let made : Thread = c.work_on.ensures.0 in
    kept_work c.args.p c.args.k made c.self.inside.slots.threads c.work_on.new.self.threads c.self.inside.stored c.self.inside.deadlines
    (ap (λ (t : LinkedThreads). t.threads) c.work_on.ensures.1)
    (if_some _ _ _ (λ thread has. c.requires.waits c.work_on.new.work c.work_on.result thread made has) c.work_on.ensures.2) c.self.invariant
