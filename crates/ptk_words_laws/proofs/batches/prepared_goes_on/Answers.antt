use Rattle.ptk_words_laws.proofs.PreparedTicks.{prepared_on}
use Rattle.ptk_words_laws.proofs.batches.prepared_goes_on.Goals as goal

pub returns : goal.returns
returns c = prepared_on
