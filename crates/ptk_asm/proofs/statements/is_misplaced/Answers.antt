use Rattle.std.proofs.Common.{rules}
use Rattle.ptk_asm.proofs.statements.is_misplaced.Goals as goal

pub returns-else-place-ne0 : goal.returns-else-place-ne0
returns-else-place-ne0 c = search rules
