use Rattle.std.proofs.Common.{◌≡◌, refl, sym, ◌∙◌, ap}
use Rattle.std.specs.Prelude.{Some}
use Rattle.ptk_words.specs.Calls.{call_of, cost_of}
use Rattle.ptk_words.specs.Processor.{register}
use Rattle.ptk_words.specs.declared.TheConstants.{A7}
use Rattle.ptk_words.specs.declared.calls.Call.TheVariants.{SchedYield}
use Rattle.ptk_words.specs.declared.sections.Limits.{Limits}
use Rattle.ptk_words.specs.declared.threads.Thread.{Thread}
use Rattle.ptk_words_model.specs.declared.Invocation.{Invocation}
use Rattle.ptk_words_model.specs.Decision.{invocation}
use Rattle.ptk_gate_pools.specs.Held.{limits_here}
use Rattle.ptk_gate.proofs.CallSteps.{call_lost, call_made, lost_told, made_told, next_in_use}
use Rattle.ptk_gate.proofs.turns.take_turn.Goals as goal

pub used_thread-thread-requires : goal.used_thread-thread-requires
used_thread-thread-requires c = record { in_use = next_in_use c.args.t c.args.pools.now.here c.requires.call }

pub returns-then-room-cost-clause-told : goal.returns-then-room-cost-clause-told
returns-then-room-cost-clause-told c =
    let seen : Thread = c.used_thread-thread.result.now in
    let paid : c.call_cost-cost.result ≡ cost_of (register seen.cpu A7) = c.call_cost-cost.ensures.value (register seen.cpu A7) (c.of_number-known.ensures ∙ ap call_of c.register.ensures.value) in
    lost_told (limits_here c.args.pools.now) c.args.tick c.args.room c.call_cost-cost.result c.args.t seen c.args.pools.now.here c.used_thread-thread.ensures c.requires.call paid c.if-room-cost.true

pub returns-then-room-cost-clause-moved : goal.returns-then-room-cost-clause-moved
returns-then-room-cost-clause-moved c =
    let seen : Thread = c.used_thread-thread.result.now in
    let paid : c.call_cost-cost.result ≡ cost_of (register seen.cpu A7) = c.call_cost-cost.ensures.value (register seen.cpu A7) (c.of_number-known.ensures ∙ ap call_of c.register.ensures.value) in
    call_lost c.args.tick c.args.room c.call_cost-cost.result c.args.t seen c.args.pools.now c.used_thread-thread.ensures c.requires.call paid c.if-room-cost.true

pub returns-in-Some-SchedYield-clause-told : goal.returns-in-Some-SchedYield-clause-told
returns-in-Some-SchedYield-clause-told c =
    let seen : Thread = c.used_thread-thread.result.now in
    let paid : c.call_cost-cost.result ≡ cost_of (register seen.cpu A7) = c.call_cost-cost.ensures.value (register seen.cpu A7) (c.of_number-known.ensures ∙ ap call_of c.register.ensures.value) in
    made_told (limits_here c.args.pools.now) c.args.tick c.args.room c.call_cost-cost.result c.args.t seen c.args.pools.now.here c.used_thread-thread.ensures c.requires.call paid c.if-room-cost.false

pub returns-in-Some-SchedYield-clause-moved : goal.returns-in-Some-SchedYield-clause-moved
returns-in-Some-SchedYield-clause-moved c =
    let seen : Thread = c.used_thread-thread.result.now in
    let i : Invocation = invocation (limits_here c.args.pools.now) c.args.tick c.args.t seen.cpu in
    let yields : c.in-Some-SchedYield.field-0 ≡ SchedYield = rw c.in-Some-SchedYield.is at c.in-Some-SchedYield.field-0-is in
    let named : c.of_number-known.result ≡ call_of (register seen.cpu A7) = c.of_number-known.ensures ∙ ap call_of c.register.ensures.value in
    let paid : c.call_cost-cost.result ≡ cost_of (register seen.cpu A7) = c.call_cost-cost.ensures.value (register seen.cpu A7) named in
    call_made c.args.tick c.args.room c.call_cost-cost.result c.pc-pc.result c.args.t seen (Some SchedYield) i c.args.pools.now c.make_yield.new.pools
    c.used_thread-thread.ensures c.requires.call paid c.if-room-cost.false c.pc-pc.ensures (sym (c.in-Some-SchedYield.is ∙ ap Some yields) ∙ named) refl
    (c.make_yield.ensures i c.call_cost-cost.result refl refl)

pub returns-in_default-clause-told : goal.returns-in_default-clause-told
returns-in_default-clause-told c =
    let seen : Thread = c.used_thread-thread.result.now in
    let paid : c.call_cost-cost.result ≡ cost_of (register seen.cpu A7) = c.call_cost-cost.ensures.value (register seen.cpu A7) (c.of_number-known.ensures ∙ ap call_of c.register.ensures.value) in
    made_told (limits_here c.args.pools.now) c.args.tick c.args.room c.call_cost-cost.result c.args.t seen c.args.pools.now.here c.used_thread-thread.ensures c.requires.call paid c.if-room-cost.false

pub returns-in_default-clause-moved : goal.returns-in_default-clause-moved
returns-in_default-clause-moved c =
    let seen : Thread = c.used_thread-thread.result.now in
    let named : c.of_number-known.result ≡ call_of (register seen.cpu A7) = c.of_number-known.ensures ∙ ap call_of c.register.ensures.value in
    let paid : c.call_cost-cost.result ≡ cost_of (register seen.cpu A7) = c.call_cost-cost.ensures.value (register seen.cpu A7) named in
    call_made c.args.tick c.args.room c.call_cost-cost.result c.pc-pc.result c.args.t seen c.of_number-known.result c.invocation-i.result c.args.pools.now c.make_step.new.pools
    c.used_thread-thread.ensures c.requires.call paid c.if-room-cost.false c.pc-pc.ensures named
    (c.invocation-i.ensures ∙ ap (λ (limits : Limits). invocation limits c.args.tick c.args.t seen.cpu) c.limits.ensures) c.make_step.ensures
