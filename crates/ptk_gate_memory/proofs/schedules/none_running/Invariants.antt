use Rattle.std.specs.Prelude.{◌≡◌, replicate, None}
use Rattle.ptk_gate_memory.proofs.schedules.none_running.Given as goal

abbrev pub invariant-loop-i : goal.invariant-loop-i
invariant-loop-i l = l.running.items ≡ replicate l.i None
