use Rattle.ptk_words_laws.proofs.Sizes.Runs.{start_keeps}
use Rattle.ptk_words_laws.proofs.laws.start_is_sized.Goals as goal

pub returns : goal.returns
returns c = start_keeps
