use Rattle.ptk_system_machine.specs.Whole.{state_at}
use Rattle.ptk_kernel.specs.Kept.{limits_at}
use Rattle.ptk_system_machine.proofs.Steady.{steady_start}
use Rattle.std.proofs.Common.{◌-◌, arith}
use Rattle.ptk_words_model.specs.Windows.{own_ticks}
use Rattle.ptk_system_machine.proofs.Ticks.{gone_start}
use Rattle.ptk_system_machine.proofs.machine.Machine.rows.Goals as goal

pub returns-in-None-clause-gone : goal.returns-in-None-clause-gone
returns-in-None-clause-gone c = gone_start (own_ticks c.args.plan.now c.args.p) c.args.p c.args.turn.start (c.args.turn.start - c.args.turn.start) c.args.self.now (omega arith)

pub returns-in-None-clause-steady : goal.returns-in-None-clause-steady
returns-in-None-clause-steady c = steady_start (own_ticks c.args.plan.now c.args.p) (limits_at c.args.p c.args.self.now.kept) c.args.turn.start (state_at c.args.p c.args.self.now)
