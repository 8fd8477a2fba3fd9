use Rattle.ptk_words_laws.proofs.TicksInARow.{others}
use Rattle.ptk_words_laws.proofs.batches.others_stay.Goals as goal

pub returns : goal.returns
returns c = others
