use Rattle.ptk_asm_language.specs.Statements.{numbered}
use Rattle.ptk_asm_language.proofs.registers.numbered.Goals as goal

pub returns : goal.returns
unfolding numbered
returns c = c.number_in.ensures
