use Rattle.ptk_words_model.proofs.OwnLaws.{end_of_window}
use Rattle.ptk_words_model.proofs.window_laws.end_is_of_window.Goals as goal

pub returns : goal.returns
returns c = end_of_window
