use Rattle.std.proofs.Common.{rules}
use Rattle.ptk_gate_moves.proofs.unwinding.call_routine.Goals as goal

pub returns-in-Some : goal.returns-in-Some
returns-in-Some c = search rules
