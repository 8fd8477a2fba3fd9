use Rattle.std.proofs.Common.{◌+◌, ◌-◌, sym, subst, arith}
use Rattle.ptk_words_model.specs.Windows.{own_ticks}
use Rattle.ptk_words_laws.specs.Quiet.{IsQuiet}
use Rattle.ptk_kernel.specs.Kept.{limits_at, part_at}
use Rattle.ptk_system_machine.specs.Steady.{states_from}
use Rattle.ptk_system_machine.specs.Whole.{Whole, state_at}
use Rattle.ptk_system_machine.proofs.LastCalls.{call_start}
use Rattle.ptk_system_machine.proofs.Steady.{steady_start}
use Rattle.ptk_system_machine.proofs.Ticks.{gone_start}
use Rattle.ptk_system_machine.proofs.machine.Machine.call_rows.Goals as goal

pub returns-in-None-clause-gone : goal.returns-in-None-clause-gone
returns-in-None-clause-gone c = gone_start (own_ticks c.args.plan.now c.args.p) c.args.p c.args.turn.start (c.args.turn.start - c.args.turn.start) c.args.self.now (omega arith)

pub returns-in-None-clause-plain : goal.returns-in-None-clause-plain
returns-in-None-clause-plain c = λ at.
    absurd (c.in-None.ensures.full at.t (c.args.turn.start + 1) at.thread (omega arith) (omega (arith, c.requires.due)) (
    subst (λ (w : Whole). IsQuiet (limits_at c.args.p w.kept) c.args.turn.start (c.args.turn.start + 1) at.t at.thread (part_at c.args.p w.kept)) (sym c.self.view_is) at.quiet))

pub returns-in-None-clause-steady : goal.returns-in-None-clause-steady
returns-in-None-clause-steady c = steady_start (own_ticks c.args.plan.now c.args.p) (limits_at c.args.p c.args.self.now.kept) c.args.turn.start (state_at c.args.p c.args.self.now)

pub returns-in-Some-clause-last : goal.returns-in-Some-clause-last
returns-in-Some-clause-last c = c.rows_on.ensures.last (omega arith)

pub returns-in-None-clause-last : goal.returns-in-None-clause-last
returns-in-None-clause-last c = call_start (states_from (own_ticks c.args.plan.now c.args.p) (limits_at c.args.p c.args.self.now.kept) c.args.turn.start (state_at c.args.p c.args.self.now)) c.args.turn.start
