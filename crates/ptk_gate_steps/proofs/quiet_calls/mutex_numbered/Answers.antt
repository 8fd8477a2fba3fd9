use Rattle.std.proofs.Common.{rules}
use Rattle.ptk_gate_steps.proofs.quiet_calls.mutex_numbered.Goals as goal

pub returns-then-word-eq0-clause-pointed : goal.returns-then-word-eq0-clause-pointed
returns-then-word-eq0-clause-pointed c = search rules

pub returns : goal.returns
returns c = search rules
