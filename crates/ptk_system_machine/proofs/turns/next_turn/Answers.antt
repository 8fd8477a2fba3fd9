use Rattle.ptk_window.specs.Turn.{IsTurn}
use Rattle.ptk_system_machine.proofs.Coming.{turn_of}
use Rattle.ptk_system_machine.proofs.Ticks.{in_window}
use Rattle.ptk_system_machine.proofs.turns.next_turn.Goals as goal

pub returns-in-Some-clause-window : goal.returns-in-Some-clause-window
returns-in-Some-clause-window c =
    let is : IsTurn c.args.plan.now c.args.p c.args.tick c.in-Some.turn = turn_of c.args.plan.now c.args.p c.args.tick c.args.walk.now c.in-Some.turn c.requires.walk.of_plan c.requires.walk.of_partition c.in-Some.ensures.turn in
    in_window c.args.plan.now c.args.p c.in-Some.turn.start c.in-Some.turn.end c.is_plan.ensures c.requires.frame is.1
