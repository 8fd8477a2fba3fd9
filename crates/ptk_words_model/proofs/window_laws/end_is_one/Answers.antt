use Rattle.ptk_words_model.proofs.OwnLaws.{end_one}
use Rattle.ptk_words_model.proofs.window_laws.end_is_one.Goals as goal

pub returns : goal.returns
returns c = end_one
