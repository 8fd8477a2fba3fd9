use Rattle.std.proofs.Common.{◌≡◌, [], replicate}
use Rattle.ptk_ready.proofs.vec_line.VecLine.build.Given as goal

abbrev pub invariant-loop-i : goal.invariant-loop-i
invariant-loop-i l = l.lines.items ≡ replicate l.i []
