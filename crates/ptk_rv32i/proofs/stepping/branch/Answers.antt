use Rattle.std.proofs.Common.{arith}
use Rattle.std.proofs.lemmas.Grind.{common_steps}
use Rattle.ptk_rv32i.proofs.stepping.branch.Goals as goal

pub returns-else-target-ne0 : goal.returns-else-target-ne0
returns-else-target-ne0 c = grind (arith, common_steps)
