use Rattle.ptk_words_laws.proofs.TicksInARow.{row_ticks}
use Rattle.ptk_words_laws.proofs.batches.row_is_ticks.Goals as goal

pub returns : goal.returns
returns c = row_ticks
