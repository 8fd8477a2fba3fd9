use Rattle.std.proofs.Common.{◌≡◌, ◌+◌, ◌<◌, Some, length, sym, subst}
use Rattle.std.specs.Prelude.{IsSome}
use Rattle.ptk_words.specs.Words.{word_of}
use Rattle.ptk_threads.specs.Registers.{with_pc}
use Rattle.ptk_words_model.specs.State.{with_locks}
use Rattle.ptk_words_model.specs.Priority.{thread_at}
use Rattle.ptk_words_model.specs.Schedule.{with_thread}
use Rattle.ptk_gate_pools.specs.Kept.{Kept, limits_at, part_at}
use Rattle.ptk_gate_pools.specs.Held.{all_of}
use Rattle.ptk_gate_pools.proofs.Hands.{lifted, lowered}
use Rattle.ptk_gate_threads.proofs.Ready.{running_in_use}
use Rattle.ptk_gate.proofs.Passing.{passed_active, passed_running, whole_passed}
use Rattle.ptk_gate.proofs.Wholes.{well_at}
use Rattle.ptk_gate.proofs.tables.Tables.pass_ecall.Goals as goal

pub update-requires-clause-in_use : goal.update-requires-clause-in_use
update-requires-clause-in_use c =
    let now : Kept = all_of c.self.inside.pools in
    let lt : c.args.p < length c.self.inside.pools.elsewhere.limits = subst (λ (kept : Kept). c.args.p < length kept.limits) (sym c.self.view_is) c.requires.partition in
    lowered c.args.p (λ limits s. IsSome (thread_at s.locks c.args.t)) now c.take.new.self c.take.ensures
    (running_in_use (limits_at c.args.p now) (part_at c.args.p now) c.args.t (well_at c.args.p now c.self.invariant lt) (subst (λ (kept : Kept). (part_at c.args.p kept).running ≡ Some c.args.t) (sym c.self.view_is) c.requires.running))

pub invariant_of-self : goal.invariant_of-self
invariant_of-self c =
    let lt : c.args.p < length c.self.inside.pools.elsewhere.limits = subst (λ (kept : Kept). c.args.p < length kept.limits) (sym c.self.view_is) c.requires.partition in
    whole_passed c.args.p c.args.t _ c.self.inside.pools c.take.new.self c.update.new.self c.take.ensures c.update.ensures c.self.invariant lt
    (subst (λ (kept : Kept). (part_at c.args.p kept).running ≡ Some c.args.t) (sym c.self.view_is) c.requires.running)

pub returns-clause-moved : goal.returns-clause-moved
returns-clause-moved c =
    rw (← c.self.view_is)
    (lifted c.args.p (λ limits s. with_locks (with_thread c.args.t (with_pc (word_of (c.args.pc + 4)))) s) (all_of c.self.inside.pools) c.take.new.self c.update.new.self c.take.ensures c.update.ensures)

pub returns-clause-active : goal.returns-clause-active
returns-clause-active c =
    let lt : c.args.p < length c.self.inside.pools.elsewhere.limits = subst (λ (kept : Kept). c.args.p < length kept.limits) (sym c.self.view_is) c.requires.partition in
    passed_active c.args.p c.args.t _ c.self.inside.pools c.take.new.self c.update.new.self c.take.ensures c.update.ensures c.self.invariant lt
    (subst (λ (kept : Kept). (part_at c.args.p kept).running ≡ Some c.args.t) (sym c.self.view_is) c.requires.running)

pub returns-clause-still_running : goal.returns-clause-still_running
returns-clause-still_running c =
    let lt : c.args.p < length c.self.inside.pools.elsewhere.limits = subst (λ (kept : Kept). c.args.p < length kept.limits) (sym c.self.view_is) c.requires.partition in
    passed_running c.args.p c.args.t _ c.self.inside.pools c.take.new.self c.update.new.self c.take.ensures c.update.ensures c.self.invariant lt
    (subst (λ (kept : Kept). (part_at c.args.p kept).running ≡ Some c.args.t) (sym c.self.view_is) c.requires.running)
