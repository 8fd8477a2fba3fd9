use Rattle.std.proofs.Common.{rules}
use Rattle.ptk_rv32i.proofs.stepping.jump_register.Goals as goal

pub returns : goal.returns
returns c = search rules
