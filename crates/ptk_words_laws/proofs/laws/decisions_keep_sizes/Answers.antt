use Rattle.ptk_words_laws.proofs.Sizes.Runs.{decisions_keep}
use Rattle.ptk_words_laws.proofs.laws.decisions_keep_sizes.Goals as goal

pub returns : goal.returns
returns c = decisions_keep
