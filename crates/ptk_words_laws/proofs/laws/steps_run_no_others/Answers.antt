use Rattle.ptk_words_laws.proofs.Callers.Rows.{steps_run_no_others}
use Rattle.ptk_words_laws.proofs.laws.steps_run_no_others.Goals as goal

pub returns : goal.returns
returns c = steps_run_no_others
