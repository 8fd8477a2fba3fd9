use Rattle.std.proofs.Common.{rules}
use Rattle.ptk_rv32i.proofs.values.with_register.Goals as goal

pub returns-in-LessUnsigned : goal.returns-in-LessUnsigned
returns-in-LessUnsigned c = search rules
