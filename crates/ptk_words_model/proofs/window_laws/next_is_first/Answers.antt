use Rattle.ptk_words_model.proofs.NextLaws.{next_first}
use Rattle.ptk_words_model.proofs.window_laws.next_is_first.Goals as goal

pub returns : goal.returns
returns c = next_first
