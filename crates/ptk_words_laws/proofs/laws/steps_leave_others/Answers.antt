use Rattle.ptk_words_laws.proofs.OtherThreads.{steps_leave_others}
use Rattle.ptk_words_laws.proofs.laws.steps_leave_others.Goals as goal

pub returns : goal.returns
returns c = steps_leave_others
