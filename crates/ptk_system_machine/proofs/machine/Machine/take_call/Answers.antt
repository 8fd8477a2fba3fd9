use Rattle.std.proofs.Common.{◌≡◌, ℕ, ◌+◌, ◌-◌, ◌<◌, ◌≤◌, length, subst, sym, arith}
use Rattle.ptk_words_model.specs.Windows.{own_ticks}
use Rattle.ptk_words_model.specs.Decision.{after_turn, runner_of, spent_in_turn}
use Rattle.ptk_words_laws.specs.Quiet.{after_ticks}
use Rattle.ptk_words_laws.specs.Prepared.{prepared}
use Rattle.ptk_kernel.specs.Kept.{limits_at, part_at, put_part}
use Rattle.ptk_system_machine.specs.Accounts.{duration_of}
use Rattle.ptk_system_machine.specs.Turns.{IsFreeFrom, IsInWindow}
use Rattle.ptk_system_machine.specs.Whole.{Whole, put_state, state_at}
use Rattle.ptk_system_machine.proofs.Costs.{turn_told_costs}
use Rattle.ptk_system_machine.proofs.Prepared.{turn_ended}
use Rattle.ptk_system_machine.proofs.States.{free_behind}
use Rattle.ptk_system_machine.proofs.machine.Machine.take_call.Goals as goal

pub returns-clause-on : goal.returns-clause-on
returns-clause-on c =
    let window : IsInWindow (own_ticks c.args.plan.now c.args.p) c.args.turn.start c.args.turn.end = c.requires.coming.window c.requires.due in
    let less : c.args.turn.start < c.args.turn.end = window.before in
    let some : 1 ≤ c.ticks.result - c.ticks-2.result = omega arith in
    let costs : 1 ≤ duration_of (c.ticks.result - c.ticks-2.result) c.take_call-spent.result =
    turn_told_costs (limits_at c.args.p c.self.inside.tables) c.args.turn.start (c.ticks.result - c.ticks-2.result) (part_at c.args.p c.self.inside.tables) c.take_call-spent.result some c.take_call-spent.ensures.told in
    c.end_turn.ensures.on (omega (arith, costs, c.new-from.ensures, c.from.ensures, c.duration.ensures.value))

pub returns-clause-gone : goal.returns-clause-gone
returns-clause-gone c = λ s ready.
    let lt : c.args.p < length c.self.inside.accounts.items = subst (λ (w : Whole). c.args.p < length w.accounts) (sym c.self.view_is) c.requires.partition in
    let room : c.ticks.result - c.ticks-2.result ≡ c.args.turn.end - c.args.turn.start = cc in
    let here : state_at c.args.p (record { kept = c.self.inside.tables; accounts = c.self.inside.accounts.items }) ≡ prepared (limits_at c.args.p c.self.inside.tables) c.args.turn.start s
    = subst (λ (w : Whole). state_at c.args.p w ≡ prepared (limits_at c.args.p w.kept) c.args.turn.start s) (sym c.self.view_is) ready in
    let told : c.take_call-spent.result ≡ spent_in_turn (limits_at c.args.p c.self.inside.tables) c.args.turn.start (c.args.turn.end - c.args.turn.start) (runner_of (part_at c.args.p c.self.inside.tables)) (part_at c.args.p c.self.inside.tables)
    = subst (λ (r : ℕ). c.take_call-spent.result ≡ spent_in_turn (limits_at c.args.p c.self.inside.tables) c.args.turn.start r (runner_of (part_at c.args.p c.self.inside.tables)) (part_at c.args.p c.self.inside.tables)) room c.take_call-spent.ensures.told in
    let moved : c.take_call-spent.new.tables ≡ put_part c.args.p (after_turn (limits_at c.args.p c.self.inside.tables) c.args.turn.start (c.args.turn.end - c.args.turn.start) (runner_of (part_at c.args.p c.self.inside.tables)) (part_at c.args.p c.self.inside.tables)) c.self.inside.tables
    = subst (λ (r : ℕ). c.take_call-spent.new.tables ≡ put_part c.args.p (after_turn (limits_at c.args.p c.self.inside.tables) c.args.turn.start r (runner_of (part_at c.args.p c.self.inside.tables)) (part_at c.args.p c.self.inside.tables)) c.self.inside.tables) room c.take_call-spent.ensures.moved in
    let free : IsFreeFrom c.args.turn.start (c.args.turn.end - c.args.turn.start) c.take_call-spent.result c.args.to (part_at c.args.p c.take_call-spent.new.tables) c.new-from.result
    = free_behind c.args.turn.start (c.args.turn.end - c.args.turn.start) c.take_call-spent.result c.args.to (part_at c.args.p c.take_call-spent.new.tables) c.new-from.result
    (subst (λ (r : ℕ). c.new-from.result ≡ c.args.turn.start + duration_of r c.take_call-spent.result) room (omega (arith, c.new-from.ensures, c.from.ensures, c.duration.ensures.value))) in
    subst (λ (w : Whole). c.end_turn.new.self ≡ put_state c.args.p (after_ticks (own_ticks c.args.plan.now c.args.p) (limits_at c.args.p w.kept) c.args.turn.start (c.end_turn.result.start - c.args.turn.start) s) w) c.self.view_is
    (turn_ended (own_ticks c.args.plan.now c.args.p) c.args.p c.args.turn.start (c.args.turn.end - c.args.turn.start) (c.end_turn.result.start - c.args.turn.start) c.args.to c.new-from.result s
    c.self.inside.tables c.take_call-spent.new.tables c.self.inside.accounts.items c.end_turn.new.self c.take_call-spent.result c.self.invariant lt here told moved free (c.end_turn.ensures.gone s))
