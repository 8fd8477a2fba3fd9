use Rattle.ptk_words_laws.proofs.TicksInARow.{alone_on}
use Rattle.ptk_words_laws.proofs.batches.alone_goes_on.Goals as goal

pub returns : goal.returns
returns c = alone_on
