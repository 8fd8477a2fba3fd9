use Rattle.ptk_words_laws.proofs.Callers.Rows.{steps_keep_callers}
use Rattle.ptk_words_laws.proofs.laws.steps_keep_callers.Goals as goal

pub returns : goal.returns
returns c = steps_keep_callers
