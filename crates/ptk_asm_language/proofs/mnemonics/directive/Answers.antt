use Rattle.ptk_asm_language.specs.Statements.{directive}
use Rattle.ptk_asm_language.proofs.mnemonics.directive.Goals as goal

pub returns : goal.returns
unfolding directive
returns c = c.form_in.ensures
