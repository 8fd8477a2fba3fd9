use Rattle.ptk_words_laws.proofs.OtherThreads.{calls_leave_others}
use Rattle.ptk_words_laws.proofs.laws.calls_leave_others.Goals as goal

pub returns : goal.returns
returns c = calls_leave_others
