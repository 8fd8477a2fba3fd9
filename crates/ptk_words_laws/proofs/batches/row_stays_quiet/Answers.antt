use Rattle.ptk_words_laws.proofs.QuietRows.{row_stays}
use Rattle.ptk_words_laws.proofs.batches.row_stays_quiet.Goals as goal

pub returns : goal.returns
returns c = row_stays
