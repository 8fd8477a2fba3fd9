use Rattle.std.proofs.Common.{◌-◌}
use Rattle.ptk_mutex.proofs.Steps.{AreRefused}
use Rattle.ptk_mutex.proofs.WokenMoves.{AreWoken}
use Rattle.ptk_mutex.proofs.unlocking.refuse_all.Given as goal

abbrev pub invariant-loop-i : goal.invariant-loop-i
invariant-loop-i l = record {
  refused : AreRefused l.p l.m (l.count - l.i) l.count l.initial.roster l.roster;
  woken : AreWoken l.p l.woken l.initial.roster l.roster;
}
