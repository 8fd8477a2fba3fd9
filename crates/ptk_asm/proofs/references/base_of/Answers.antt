use Rattle.std.proofs.Common.{rules}
use Rattle.ptk_asm.proofs.references.base_of.Goals as goal

pub returns-in-Data : goal.returns-in-Data
returns-in-Data c = search rules
