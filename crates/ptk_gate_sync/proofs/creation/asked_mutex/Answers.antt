use Rattle.std.proofs.Common.{rules}
use Rattle.ptk_gate_sync.proofs.creation.asked_mutex.Goals as goal

pub returns-clause-call : goal.returns-clause-call
returns-clause-call c = search rules
