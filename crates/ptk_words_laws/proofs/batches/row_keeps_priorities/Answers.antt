use Rattle.ptk_words_laws.proofs.RowsKept.{priorities_kept}
use Rattle.ptk_words_laws.proofs.batches.row_keeps_priorities.Goals as goal

pub returns : goal.returns
returns c = priorities_kept
