use Rattle.std.proofs.Common.{rules}
use Rattle.ptk_gate_steps.proofs.quiet_stops.quiet_until.Goals as goal

pub returns-clause-full : goal.returns-clause-full
returns-clause-full c = search rules
