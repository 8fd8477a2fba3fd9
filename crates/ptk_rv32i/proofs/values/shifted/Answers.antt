use Rattle.std.proofs.Common.{rules}
use Rattle.ptk_rv32i.proofs.values.shifted.Goals as goal

pub returns-in-RightSigned : goal.returns-in-RightSigned
returns-in-RightSigned c = search rules
