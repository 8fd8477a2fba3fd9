use Rattle.std.proofs.Common.{◌≡◌, [], replicate}
use Rattle.ptk_cancel.proofs.stacks.empty_stacks.Given as goal

abbrev pub invariant-loop-i : goal.invariant-loop-i
invariant-loop-i l = l.stacks.items ≡ replicate l.i []
