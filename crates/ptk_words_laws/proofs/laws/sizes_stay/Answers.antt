use Rattle.ptk_words_laws.proofs.Sizes.Runs.{sizes_stay}
use Rattle.ptk_words_laws.proofs.laws.sizes_stay.Goals as goal

pub returns : goal.returns
returns c = sizes_stay
