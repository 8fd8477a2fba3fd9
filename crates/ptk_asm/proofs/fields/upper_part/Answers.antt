use Rattle.std.proofs.Common.{rules}
use Rattle.ptk_asm.proofs.fields.upper_part.Goals as goal

pub returns : goal.returns
returns c = search rules
