use Rattle.std.proofs.Common.{arith}
use Rattle.ptk_rv32i_code.proofs.Coded.{r_again}
use Rattle.ptk_rv32i_code.proofs.decoding.decode_op.Goals as goal

pub returns-clause-again : goal.returns-clause-again
returns-clause-again c = grind (arith, r_again)
