use Rattle.ptk_asm_language.specs.Statements.{computing_form}
use Rattle.ptk_asm_language.proofs.mnemonics.computing_form.Goals as goal

pub returns : goal.returns
unfolding computing_form
returns c = c.form_in.ensures
