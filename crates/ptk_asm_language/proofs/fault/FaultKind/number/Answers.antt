use Rattle.std.proofs.Common.{rules}
use Rattle.ptk_asm_language.proofs.fault.FaultKind.number.Goals as goal

pub returns-in-Range : goal.returns-in-Range
returns-in-Range c = search rules
