use Rattle.ptk_words_laws.proofs.Arrivals.{none_before}
use Rattle.ptk_words_laws.proofs.batches.none_comes_before.Goals as goal

pub returns : goal.returns
returns c = none_before
