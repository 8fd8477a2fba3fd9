use Rattle.ptk_words_model.proofs.NextLaws.{next_one}
use Rattle.ptk_words_model.proofs.window_laws.next_is_one.Goals as goal

pub returns : goal.returns
returns c = next_one
