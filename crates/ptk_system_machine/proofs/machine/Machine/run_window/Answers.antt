use Rattle.std.proofs.Common.{◌≤◌, arith}
use Rattle.ptk_words_model.specs.Windows.{own_ticks}
use Rattle.ptk_system_machine.specs.Turns.{IsInWindow}
use Rattle.ptk_system_machine.proofs.StillQuiet.{still_beyond, still_within}
use Rattle.ptk_system_machine.proofs.machine.Machine.run_window.Goals as goal

pub returns-clause-on : goal.returns-clause-on
returns-clause-on c = λ past.
    let window : IsInWindow (own_ticks c.args.plan.now c.args.p) c.args.turn.start c.args.turn.end = c.requires.coming.window (omega (arith, c.requires.order, c.requires.within)) in
    omega (arith, past, window.before)

pub returns-clause-still : goal.returns-clause-still
returns-clause-still c =
    let sooner : c.quiet_within-within.result.stop ≤ c.args.quiet.now.stop = omega (arith, c.quiet_within-within.ensures.stop) in
    still_beyond c.args.p c.args.turn.start c.run_within.result.turn.start c.args.quiet.now.stop c.quiet_within-within.result.stop c.args.quiet.now.thread c.quiet_within-within.result.thread c.args.self.now.kept c.run_within.new.self.kept
    sooner c.quiet_within-within.ensures.thread c.run_within.ensures.still c.requires.quiet

pub run_within-requires-clause-quiet : goal.run_within-requires-clause-quiet
run_within-requires-clause-quiet c =
    let sooner : c.quiet_within-within.result.stop ≤ c.args.quiet.now.stop = omega (arith, c.quiet_within-within.ensures.stop) in
    still_within c.args.p c.args.turn.start c.args.quiet.now.stop c.quiet_within-within.result.stop c.args.quiet.now.thread c.quiet_within-within.result.thread c.args.self.now.kept
    sooner c.quiet_within-within.ensures.thread c.requires.quiet
