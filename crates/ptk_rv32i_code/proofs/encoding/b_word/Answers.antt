use Rattle.std.proofs.Common.{arith}
use Rattle.std.proofs.lemmas.Grind.{common_steps}
use Rattle.ptk_rv32i_code.proofs.encoding.b_word.Goals as goal

pub returns-clause-bits : goal.returns-clause-bits
returns-clause-bits c = grind (arith, common_steps)
