use Rattle.std.proofs.Common.{rules}
use Rattle.ptk_gate_steps.proofs.quiet_calls.refuse_detachment.Goals as goal

pub returns-then-not-is_taken : goal.returns-then-not-is_taken
returns-then-not-is_taken c = search rules
