use Rattle.std.proofs.Common.{◌-◌, ◌<◌, arith}
use Rattle.ptk_words_model.specs.Windows.{own_ticks}
use Rattle.ptk_system_machine.specs.Turns.{IsInWindow}
use Rattle.ptk_system_machine.specs.Whole.{state_at}
use Rattle.ptk_system_machine.proofs.Prepared.{prepared_gone, prepared_state, turn_gone}
use Rattle.ptk_system_machine.proofs.machine.Machine.go_on.Goals as goal

pub returns-in-Some-clause-gone : goal.returns-in-Some-clause-gone
returns-in-Some-clause-gone c =
    let window : IsInWindow (own_ticks c.args.plan.now c.args.p) c.args.turn.start c.args.turn.end = c.requires.coming.window c.requires.due in
    let on : c.args.turn.start < c.go_quiet.result.start = c.go_quiet.ensures.on in
    prepared_gone (own_ticks c.args.plan.now c.args.p) c.args.p c.args.turn.start c.args.turn.end (c.go_quiet.result.start - c.args.turn.start) c.in-Some.quiet.stop c.in-Some.quiet.thread
    c.args.self.now c.prepare.new.self c.go_quiet.new.self c.parts-parts.ensures.whole c.requires.partition
    (c.requires.coming.due c.requires.due) (window.ends c.args.turn.start (omega arith) window.before) (omega (arith, on)) c.prepare.ensures.tables c.prepare.ensures.accounts c.in-Some.ensures.2 c.in-Some.ensures.0 c.go_quiet.ensures.gone

pub returns-in-None-clause-gone : goal.returns-in-None-clause-gone
returns-in-None-clause-gone c =
    turn_gone (own_ticks c.args.plan.now c.args.p) c.args.p c.args.turn.start (c.take_turn.result.start - c.args.turn.start) c.args.self.now c.prepare.new.self c.take_turn.new.self c.requires.partition
    c.prepare.ensures.tables c.prepare.ensures.accounts
    (c.take_turn.ensures.gone (state_at c.args.p c.args.self.now) (prepared_state c.args.p c.args.turn.start c.args.self.now c.prepare.new.self c.parts-parts.ensures.whole c.requires.partition c.prepare.ensures.tables c.prepare.ensures.accounts))
