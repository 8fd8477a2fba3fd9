use Rattle.std.proofs.Common.{w8}
use Rattle.std.proofs.Math.Facts.{Fits-lt-pow}
use Rattle.ptk_disasm.proofs.Written.{bytes-fit}
use Rattle.ptk_disasm.proofs.disassembly.is_too_long.Goals as goal

pub returns-clause-bytes : goal.returns-clause-bytes
returns-clause-bytes c = bytes-fit c.args.section.now (λ k. Fits-lt-pow {w = w8} (c.type_inv.section k))
