use Rattle.ptk_mutex.proofs.Steps.{AreEnded}
use Rattle.ptk_mutex.proofs.WokenMoves.{AreWoken}
use Rattle.ptk_mutex.proofs.ends.end_all.Given as goal

abbrev pub invariant-loop-i : goal.invariant-loop-i
invariant-loop-i l = record {
  ended : AreEnded l.p l.t l.i l.initial.roster l.roster;
  woken : AreWoken l.p l.woken l.initial.roster l.roster;
}
