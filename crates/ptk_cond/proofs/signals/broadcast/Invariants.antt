use Rattle.std.proofs.Common.{◌≡◌, ◌-◌}
use Rattle.std.specs.Fn.{iterate}
use Rattle.ptk_words_model.specs.Condition.{after_signal}
use Rattle.ptk_mutex.specs.Sound.{IsSound}
use Rattle.ptk_mutex.proofs.WokenMoves.{AreWoken}
use Rattle.ptk_cond.proofs.Steps.{of_part, AreSignalled}
use Rattle.ptk_cond.proofs.Visited.{AreVisited}
use Rattle.ptk_cond.proofs.signals.broadcast.Given as goal

abbrev pub invariant-loop-i : goal.invariant-loop-i
invariant-loop-i l = record {
  signalled : AreSignalled l.p l.c (l.count - l.i) l.count l.initial.roster l.roster;
  reached : of_part l.p l.roster ≡ iterate (after_signal l.c) l.i (of_part l.p l.initial.roster);
  visited : AreVisited l.c l.i (of_part l.p l.initial.roster) l.initial.mutexes l.mutexes;
  woken : AreWoken l.p l.woken l.initial.roster l.roster;
  sound : IsSound l.initial.roster → IsSound l.roster;
}
