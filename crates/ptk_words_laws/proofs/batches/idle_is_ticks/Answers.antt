use Rattle.ptk_words_laws.proofs.IdleTicks.{idle_ticks}
use Rattle.ptk_words_laws.proofs.batches.idle_is_ticks.Goals as goal

pub returns : goal.returns
returns c = idle_ticks
