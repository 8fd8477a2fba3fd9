use Rattle.ptk_words_laws.proofs.ReplyDecisions.{reply_decided}
use Rattle.ptk_words_laws.proofs.batches.reply_is_decided.Goals as goal

pub returns : goal.returns
returns c = reply_decided
