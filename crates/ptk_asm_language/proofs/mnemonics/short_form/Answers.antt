use Rattle.ptk_asm_language.specs.Statements.{short_form}
use Rattle.ptk_asm_language.proofs.mnemonics.short_form.Goals as goal

pub returns : goal.returns
unfolding short_form
returns c = c.form_in.ensures
