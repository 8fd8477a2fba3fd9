use Rattle.ptk_words_model.proofs.OwnLaws.{window_whole}
use Rattle.ptk_words_model.proofs.window_laws.window_is_whole.Goals as goal

pub returns : goal.returns
returns c = window_whole
