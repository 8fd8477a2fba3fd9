use Rattle.std.proofs.Common.{rules}
use Rattle.ptk_asm_language.proofs.slots.slots_of.Goals as goal

pub returns-in-Branch : goal.returns-in-Branch
returns-in-Branch c = search rules
