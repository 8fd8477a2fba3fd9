use Rattle.std.proofs.Common.{rules}
use Rattle.ptk_gate_moves.proofs.blocking.halt.Goals as goal

pub returns : goal.returns
returns c = search rules
