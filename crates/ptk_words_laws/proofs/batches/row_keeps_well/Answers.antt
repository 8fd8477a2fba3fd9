use Rattle.ptk_words_laws.proofs.RowsKept.{well_kept}
use Rattle.ptk_words_laws.proofs.batches.row_keeps_well.Goals as goal

pub returns : goal.returns
returns c = well_kept
