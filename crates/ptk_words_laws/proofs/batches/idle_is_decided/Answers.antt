use Rattle.ptk_words_laws.proofs.IdleTicks.{idle_decided}
use Rattle.ptk_words_laws.proofs.batches.idle_is_decided.Goals as goal

pub returns : goal.returns
returns c = idle_decided
