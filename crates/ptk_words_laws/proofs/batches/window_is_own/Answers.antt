use Rattle.ptk_words_laws.proofs.TicksInARow.{window_own}
use Rattle.ptk_words_laws.proofs.batches.window_is_own.Goals as goal

pub returns : goal.returns
returns c = window_own
