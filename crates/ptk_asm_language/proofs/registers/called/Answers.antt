use Rattle.ptk_asm_language.specs.Statements.{called}
use Rattle.ptk_asm_language.proofs.registers.called.Goals as goal

pub returns : goal.returns
unfolding called
returns c = c.number_in.ensures
