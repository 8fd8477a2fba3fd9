use Rattle.ptk_words_laws.proofs.TicksInARow.{join}
use Rattle.ptk_words_laws.proofs.batches.rows_join.Goals as goal

pub returns : goal.returns
returns c = join
