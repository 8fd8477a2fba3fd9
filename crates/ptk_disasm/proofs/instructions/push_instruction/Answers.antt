use Rattle.std.proofs.Common.{rules}
use Rattle.ptk_disasm.proofs.instructions.push_instruction.Goals as goal

pub returns-in-Branch : goal.returns-in-Branch
returns-in-Branch c = search rules

pub returns-in-Lui : goal.returns-in-Lui
returns-in-Lui c = search rules

pub returns-in-Store : goal.returns-in-Store
returns-in-Store c = search rules
