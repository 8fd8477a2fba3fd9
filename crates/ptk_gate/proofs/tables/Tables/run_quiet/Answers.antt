use Rattle.std.proofs.Common.{◌<◌, ◌≤◌, ◌∙◌, length, sym, ap, subst}
use Rattle.ptk_words_invariant.specs.Well.{IsWell}
use Rattle.ptk_console.specs.ConsoleTable.{no_limits}
use Rattle.ptk_gate_pools.specs.Kept.{Kept, part_at, put_part, limits_at}
use Rattle.ptk_gate_pools.specs.Held.{all_of}
use Rattle.ptk_gate_pools.proofs.Hands.{lowered, raised}
use Rattle.ptk_gate_steps.specs.Decisions.{IsQuietTo, begun}
use Rattle.ptk_gate_steps.specs.NextSteps.{IsCallNext}
use Rattle.ptk_gate_steps.specs.Stretches.{HasEnded, HasGone, IsCallLast}
use Rattle.ptk_gate.proofs.RowsWhole.{rows_gone, rows_here, rows_put, rows_whole}
use Rattle.ptk_gate.proofs.Wholes.{well_at}
use Rattle.ptk_gate.proofs.tables.Tables.run_quiet.Goals as goal

pub invariant_of-self : goal.invariant_of-self
invariant_of-self c =
    let now : Kept = all_of c.self.inside.pools in
    let lt : c.args.p < length now.limits = subst (λ (kept : Kept). c.args.p < length kept.limits) (sym c.self.view_is) c.requires.partition in
    rows_whole c.args.p c.args.quiet.thread c.args.tick c.run_quiet.result.steps c.run_quiet.result.tick now c.take.new.self c.run_quiet.new.pools c.args.trace.now c.run_quiet.new.trace c.self.invariant lt c.take.ensures c.run_quiet.ensures.moved c.run_quiet.ensures.gone

pub run_quiet-requires-clause-quiet : goal.run_quiet-requires-clause-quiet
run_quiet-requires-clause-quiet c =
    let now : Kept = all_of c.self.inside.pools in
    lowered c.args.p (λ limits s. IsQuietTo limits c.args.tick c.args.quiet.stop c.args.quiet.thread s) now c.take.new.self c.take.ensures
    (subst (λ (kept : Kept). IsQuietTo (limits_at c.args.p kept) c.args.tick c.args.quiet.stop c.args.quiet.thread (part_at c.args.p kept)) (sym c.self.view_is) c.requires.quiet)

pub run_quiet-requires-clause-well : goal.run_quiet-requires-clause-well
run_quiet-requires-clause-well c =
    let now : Kept = all_of c.self.inside.pools in
    let lt : c.args.p < length now.limits = subst (λ (kept : Kept). c.args.p < length kept.limits) (sym c.self.view_is) c.requires.partition in
    lowered c.args.p (λ limits s. IsWell limits s) now c.take.new.self c.take.ensures (well_at c.args.p now c.self.invariant lt)

pub run_quiet-requires-clause-interval : goal.run_quiet-requires-clause-interval
run_quiet-requires-clause-interval c =
    let now : Kept = all_of c.self.inside.pools in
    let lt : c.args.p < length now.limits = subst (λ (kept : Kept). c.args.p < length kept.limits) (sym c.self.view_is) c.requires.partition in
    lowered c.args.p (λ limits s. limits.interval ≤ 1000000) now c.take.new.self c.take.ensures (c.self.invariant.ranges c.args.p no_limits lt).interval_to

pub returns-clause-moved : goal.returns-clause-moved
returns-clause-moved c =
    let now : Kept = all_of c.self.inside.pools in
    let lt : c.args.p < length now.limits = subst (λ (kept : Kept). c.args.p < length kept.limits) (sym c.self.view_is) c.requires.partition in
    rows_put c.args.p now c.take.new.self c.run_quiet.new.pools c.take.ensures c.run_quiet.ensures.moved
    ∙ ap (λ s. put_part c.args.p s now) (sym (rows_here c.args.p now c.take.new.self c.run_quiet.new.pools c.self.invariant lt c.take.ensures c.run_quiet.ensures.moved))
    ∙ ap (λ (kept : Kept). put_part c.args.p (part_at c.args.p (all_of c.run_quiet.new.pools)) kept) c.self.view_is

pub returns-clause-gone : goal.returns-clause-gone
returns-clause-gone c =
    let now : Kept = all_of c.self.inside.pools in
    let lt : c.args.p < length now.limits = subst (λ (kept : Kept). c.args.p < length kept.limits) (sym c.self.view_is) c.requires.partition in
    subst (λ (kept : Kept). HasGone (limits_at c.args.p kept) c.args.quiet.thread c.args.tick c.run_quiet.result.steps c.run_quiet.result.tick (part_at c.args.p kept) (part_at c.args.p (all_of c.run_quiet.new.pools)) c.args.trace.now c.run_quiet.new.trace) c.self.view_is
    (rows_gone c.args.p c.args.quiet.thread c.args.tick c.run_quiet.result.steps c.run_quiet.result.tick now c.take.new.self c.run_quiet.new.pools c.args.trace.now c.run_quiet.new.trace c.self.invariant lt c.take.ensures c.run_quiet.ensures.moved c.run_quiet.ensures.gone)

pub returns-clause-last : goal.returns-clause-last
returns-clause-last c = λ sooner.
    let now : Kept = all_of c.self.inside.pools in
    subst (λ (kept : Kept). IsCallLast (limits_at c.args.p kept) c.run_quiet.result.steps (begun c.args.tick (part_at c.args.p kept))) c.self.view_is
    (raised c.args.p (λ limits s. IsCallLast limits c.run_quiet.result.steps (begun c.args.tick s)) now c.take.new.self c.take.ensures (c.run_quiet.ensures.last sooner))

pub returns-clause-ended : goal.returns-clause-ended
returns-clause-ended c = λ before until.
    let now : Kept = all_of c.self.inside.pools in
    let lt : c.args.p < length now.limits = subst (λ (kept : Kept). c.args.p < length kept.limits) (sym c.self.view_is) c.requires.partition in
    subst (HasEnded c.args.quiet.stop c.args.quiet.thread c.run_quiet.result.tick) (sym (rows_here c.args.p now c.take.new.self c.run_quiet.new.pools c.self.invariant lt c.take.ensures c.run_quiet.ensures.moved))
    (c.run_quiet.ensures.ended before until)

pub returns-clause-call : goal.returns-clause-call
returns-clause-call c = λ is.
    let now : Kept = all_of c.self.inside.pools in
    let lt : c.args.p < length now.limits = subst (λ (kept : Kept). c.args.p < length kept.limits) (sym c.self.view_is) c.requires.partition in
    subst (IsCallNext c.args.quiet.thread) (sym (rows_here c.args.p now c.take.new.self c.run_quiet.new.pools c.self.invariant lt c.take.ensures c.run_quiet.ensures.moved)) (c.run_quiet.ensures.call is)
