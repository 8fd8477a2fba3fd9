use Rattle.ptk_words_model.proofs.OwnLaws.{own_apart}
use Rattle.ptk_words_model.proofs.window_laws.own_ticks_are_apart.Goals as goal

pub returns : goal.returns
returns c = own_apart
