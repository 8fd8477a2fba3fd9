use Rattle.ptk_asm_language.specs.Statements.{moving_form}
use Rattle.ptk_asm_language.proofs.mnemonics.moving_form.Goals as goal

pub returns : goal.returns
unfolding moving_form
returns c = c.form_in.ensures
