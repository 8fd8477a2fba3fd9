use Rattle.std.proofs.Common.{ap, sym, subst}
use Rattle.std.specs.Prelude.{IsSome}
use Rattle.ptk_threads.specs.Table.{ThreadTable, thread_in}
use Rattle.ptk_threads.specs.Queues.{LinkedThreads}
use Rattle.ptk_threads.proofs.Timed.{kept_changed}
use Rattle.ptk_threads.proofs.threads.Threads.append_updated.Goals as goal

pub invariant_of-self : goal.invariant_of-self
invariant_of-self g c =
    kept_changed c.deadline-deadline.result c.args.p c.args.k (g.C.ThreadChange.changed c.args.change.now) c.self.inside.slots.threads c.append_updated.new.self.threads c.self.inside.stored c.self.inside.deadlines c.follow_change.new.deadlines
    c.deadline-deadline.ensures (ap (λ (t : LinkedThreads). t.threads) c.append_updated.ensures) c.follow_change.ensures (subst (λ (table : ThreadTable). IsSome (thread_in table c.args.p c.args.k)) (sym c.self.view_is) c.requires.in_use) c.self.invariant
