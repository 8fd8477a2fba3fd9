use Rattle.std.proofs.Common.{arith}
use Rattle.ptk_gate_steps.proofs.RepliesMade.{leavings}
use Rattle.ptk_gate_steps.proofs.replies.leave.Goals as goal

pub returns-in-RoundRobin : goal.returns-in-RoundRobin
returns-in-RoundRobin c = grind (arith, leavings)
