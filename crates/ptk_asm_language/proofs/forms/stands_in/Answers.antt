use Rattle.std.proofs.Common.{rules}
use Rattle.ptk_asm_language.proofs.forms.stands_in.Goals as goal

pub returns-in-Byte-default : goal.returns-in-Byte-default
returns-in-Byte-default c = search rules
