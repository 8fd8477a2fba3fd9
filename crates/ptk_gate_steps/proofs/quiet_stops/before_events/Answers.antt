use Rattle.std.proofs.Common.{rules}
use Rattle.ptk_gate_steps.proofs.quiet_stops.before_events.Goals as goal

pub returns : goal.returns
returns c = search rules
