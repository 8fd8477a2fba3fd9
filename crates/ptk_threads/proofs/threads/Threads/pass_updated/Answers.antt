use Rattle.std.proofs.Common.{ap, sym, subst}
use Rattle.std.specs.Prelude.{IsSome}
use Rattle.ptk_threads.specs.Table.{ThreadTable, thread_in}
use Rattle.ptk_threads.specs.Queues.{LinkedThreads, with_last, with_out}
use Rattle.ptk_threads.proofs.Linked.{passed_view}
use Rattle.ptk_threads.proofs.Timed.{kept_changed}
use Rattle.ptk_threads.proofs.threads.Threads.pass_updated.Goals as goal

pub invariant_of-self : goal.invariant_of-self
invariant_of-self g c =
    kept_changed c.deadline-deadline.result c.args.p c.args.k (g.C.ThreadChange.changed c.args.change.now) c.self.inside.slots.threads c.pass_updated.new.self.threads c.self.inside.stored c.self.inside.deadlines c.follow_change.new.deadlines
    c.deadline-deadline.ensures (ap (λ (t : LinkedThreads). t.threads) c.pass_updated.ensures) c.follow_change.ensures (subst (λ (table : ThreadTable). IsSome (thread_in table c.args.p c.args.k)) (sym c.self.view_is) c.requires.in_use) c.self.invariant

pub returns : goal.returns
returns g c =
    passed_view c.self.inside.slots c.pass_updated.new.self c.args.self.now c.self.inside.stored c.parts-parts.result c.args.p c.args.k (g.C.ThreadChange.changed c.args.change.now) (with_out c.args.from c.args.k) (with_last c.args.to c.args.k)
    c.self.view_is c.parts-parts.ensures.parts c.parts-parts.ensures.listed c.requires.partition c.pass_updated.ensures
