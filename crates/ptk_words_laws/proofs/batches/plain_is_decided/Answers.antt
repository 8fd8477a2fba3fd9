use Rattle.ptk_words_laws.proofs.PlainDecisions.{plain_decided}
use Rattle.ptk_words_laws.proofs.batches.plain_is_decided.Goals as goal

pub returns : goal.returns
returns c = plain_decided
