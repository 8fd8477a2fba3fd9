use Rattle.std.proofs.Common.{rules}
use Rattle.ptk_disasm.proofs.symbols.Symbols.nearest.Goals as goal

pub returns : goal.returns
returns c = search rules
