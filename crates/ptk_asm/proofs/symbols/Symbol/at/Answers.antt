use Rattle.std.proofs.Common.{rules}
use Rattle.ptk_asm.proofs.symbols.Symbol.at.Goals as goal

pub returns : goal.returns
returns c = search rules
