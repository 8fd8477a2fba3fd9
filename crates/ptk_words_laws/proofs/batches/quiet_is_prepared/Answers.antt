use Rattle.ptk_words_laws.proofs.PlainDecisions.{quiet_ready}
use Rattle.ptk_words_laws.proofs.batches.quiet_is_prepared.Goals as goal

pub returns : goal.returns
returns c = quiet_ready
