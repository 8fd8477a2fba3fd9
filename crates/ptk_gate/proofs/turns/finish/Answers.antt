use Rattle.std.proofs.Common.{rules}
use Rattle.ptk_gate.proofs.turns.finish.Goals as goal

pub returns-else-left : goal.returns-else-left
returns-else-left c = search rules
