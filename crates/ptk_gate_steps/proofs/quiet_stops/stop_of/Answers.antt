use Rattle.std.proofs.Common.{rules}
use Rattle.ptk_gate_steps.proofs.quiet_stops.stop_of.Goals as goal

pub returns-in-RoundRobin : goal.returns-in-RoundRobin
returns-in-RoundRobin c = search rules
