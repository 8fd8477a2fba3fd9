use Rattle.std.proofs.Common.{refl}
use Rattle.ptk_mutex.proofs.WokenMoves.{nobody-same}
use Rattle.ptk_cond.proofs.signals.signal_to.Goals as goal

pub returns-in-None-clause-woken : goal.returns-in-None-clause-woken
returns-in-None-clause-woken c = nobody-same c.args.p c.args.roster.now c.args.roster.now refl
