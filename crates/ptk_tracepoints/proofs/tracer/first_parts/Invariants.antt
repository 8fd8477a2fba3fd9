use Rattle.std.proofs.Common.{◌≡◌, length}
use Rattle.ptk_tracepoints.proofs.tracer.first_parts.Given as goal

abbrev pub invariant-loop-i : goal.invariant-loop-i
invariant-loop-i l = length l.parts.items ≡ l.i
