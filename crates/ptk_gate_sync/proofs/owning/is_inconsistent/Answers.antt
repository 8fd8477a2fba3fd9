use Rattle.std.proofs.Common.{rules}
use Rattle.ptk_gate_sync.proofs.owning.is_inconsistent.Goals as goal

pub returns-in-Inconsistent : goal.returns-in-Inconsistent
returns-in-Inconsistent c = search rules
