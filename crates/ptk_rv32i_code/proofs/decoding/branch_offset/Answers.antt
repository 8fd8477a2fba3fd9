use Rattle.std.proofs.Common.{arith}
use Rattle.std.proofs.lemmas.Grind.{common_steps}
use Rattle.ptk_rv32i_code.proofs.decoding.branch_offset.Goals as goal

pub returns : goal.returns
returns c = grind (arith, common_steps)
