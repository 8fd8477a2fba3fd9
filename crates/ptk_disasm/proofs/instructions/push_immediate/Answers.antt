use Rattle.std.proofs.Common.{rules}
use Rattle.ptk_disasm.proofs.instructions.push_immediate.Goals as goal

pub returns-in-Less : goal.returns-in-Less
returns-in-Less c = search rules
