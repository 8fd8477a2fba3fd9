use Rattle.std.proofs.Common.{arith}
use Rattle.std.proofs.lemmas.Grind.{common_steps}
use Rattle.ptk_rv32i.proofs.stepping.register_target.Goals as goal

pub returns : goal.returns
returns c = grind (arith, common_steps)
