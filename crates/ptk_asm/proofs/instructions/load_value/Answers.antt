use Rattle.std.proofs.Common.{rules}
use Rattle.ptk_asm.proofs.instructions.load_value.Goals as goal

pub returns-else-is_short : goal.returns-else-is_short
returns-else-is_short c = search rules
