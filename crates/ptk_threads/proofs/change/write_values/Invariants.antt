use Rattle.std.proofs.Common.{◌≡◌, ◌+◌, drop}
use Rattle.ptk_words.specs.declared.TheConstants.{A0}
use Rattle.ptk_clock.specs.Schedule.{with_registers}
use Rattle.ptk_threads.proofs.change.write_values.Given as goal

abbrev pub invariant-loop-i : goal.invariant-loop-i
invariant-loop-i l = with_registers l.cpu (A0 + l.i) (drop l.i l.values) ≡ with_registers l.initial.cpu A0 l.values
