use Rattle.ptk_words_model.proofs.NextLaws.{next_near}
use Rattle.ptk_words_model.proofs.window_laws.next_is_near.Goals as goal

pub returns : goal.returns
returns c = next_near
