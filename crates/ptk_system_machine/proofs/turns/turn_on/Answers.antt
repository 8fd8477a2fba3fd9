use Rattle.std.proofs.Common.{◌≡◌, ℕ, None, sym, subst, arith}
use Rattle.std.specs.Prelude.{IfSome}
use Rattle.ptk_words_model.specs.Windows.{WindowPlan, own_ticks}
use Rattle.ptk_window.specs.Turn.{IsTurn}
use Rattle.ptk_system_machine.proofs.Coming.{at_some, turn_of}
use Rattle.ptk_system_machine.proofs.Ticks.{in_window}
use Rattle.ptk_system_machine.proofs.turns.turn_on.Goals as goal

pub turn_after-requires-clause-at : goal.turn_after-requires-clause-at
turn_after-requires-clause-at c =
    let same : c.args.end ≡ c.args.tick = omega (arith, c.requires.before, c.if-ticks.false) in
    subst (λ (e : ℕ). IfSome c.args.walk.now.end (λ (known : ℕ). known ≡ e)) same c.requires.walk.at

pub returns-in-Some-clause-next : goal.returns-in-Some-clause-next
returns-in-Some-clause-next c =
    let is : IsTurn c.args.plan.now c.args.p c.args.tick c.in-Some.turn = turn_of c.args.plan.now c.args.p c.args.tick c.args.walk.now c.in-Some.turn c.requires.walk.of_plan c.requires.walk.of_partition c.in-Some.ensures.turn in
    sym is.0

pub returns-in-Some-clause-window : goal.returns-in-Some-clause-window
returns-in-Some-clause-window c =
    let is : IsTurn c.args.plan.now c.args.p c.args.tick c.in-Some.turn = turn_of c.args.plan.now c.args.p c.args.tick c.args.walk.now c.in-Some.turn c.requires.walk.of_plan c.requires.walk.of_partition c.in-Some.ensures.turn in
    in_window c.args.plan.now c.args.p c.in-Some.turn.start c.in-Some.turn.end c.is_plan.ensures c.requires.frame is.1

pub returns-in-Some-clause-walk : goal.returns-in-Some-clause-walk
returns-in-Some-clause-walk c =
    at_some c.args.plan.now c.args.p c.in-Some.turn.end c.args.walk.now c.turn_after.new.self c.requires.walk.of_plan c.requires.walk.of_partition c.turn_after.ensures.same.0 c.turn_after.ensures.same.1 c.in-Some.ensures.at

pub returns-in-None-clause-next : goal.returns-in-None-clause-next
returns-in-None-clause-next c =
    sym (subst (λ (w : WindowPlan). (own_ticks w c.args.p).next_of c.args.tick ≡ None) c.requires.walk.of_plan
    (subst (λ (q : ℕ). (own_ticks c.args.walk.now.plan q).next_of c.args.tick ≡ None) c.requires.walk.of_partition c.in-None.ensures.turn))
