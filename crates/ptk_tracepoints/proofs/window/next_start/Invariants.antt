use Rattle.std.proofs.Common.{◌≤◌}
use Rattle.ptk_tracepoints.proofs.window.next_start.Given as goal

abbrev pub invariant-loop-i : goal.invariant-loop-i
invariant-loop-i l = l.next ≤ l.to
