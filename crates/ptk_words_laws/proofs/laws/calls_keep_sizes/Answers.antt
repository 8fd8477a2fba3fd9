use Rattle.ptk_words_laws.proofs.Sizes.Runs.{calls_keep}
use Rattle.ptk_words_laws.proofs.laws.calls_keep_sizes.Goals as goal

pub returns : goal.returns
returns c = calls_keep
