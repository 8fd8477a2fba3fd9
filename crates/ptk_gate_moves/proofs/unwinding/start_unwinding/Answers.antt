use Rattle.std.proofs.Common.{rules}
use Rattle.ptk_gate_moves.proofs.unwinding.start_unwinding.Goals as goal

pub returns : goal.returns
returns c = search rules
