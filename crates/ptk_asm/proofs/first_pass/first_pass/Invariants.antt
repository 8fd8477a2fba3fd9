use Rattle.std.proofs.Common.{ℕ, ◌≤◌, ◌+◌, length, List}
use Rattle.ptk_asm.specs.Passing.{Reaches, IsBehind}
use Rattle.ptk_asm.proofs.first_pass.first_pass.Given as goal

abbrev pub invariant-loop-rest : goal.invariant-loop-rest
invariant-loop-rest l = (l.number + length l.rest ≤ length l.source) × ((before : List (List ℕ)) × (Reaches l.layout before × IsBehind l.source l.rest l.number before))

abbrev pub decreases-loop-rest : goal.decreases-loop-rest
decreases-loop-rest l = length l.rest
