use Rattle.ptk_words_laws.proofs.ReplyDecisions.{reply_quiet}
use Rattle.ptk_words_laws.proofs.batches.reply_stays_quiet.Goals as goal

pub returns : goal.returns
returns c = reply_quiet
