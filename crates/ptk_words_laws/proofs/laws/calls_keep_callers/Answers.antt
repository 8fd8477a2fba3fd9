use Rattle.ptk_words_laws.proofs.Callers.Rows.{calls_keep_callers}
use Rattle.ptk_words_laws.proofs.laws.calls_keep_callers.Goals as goal

pub returns : goal.returns
returns c = calls_keep_callers
