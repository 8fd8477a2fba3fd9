use Rattle.ptk_words_laws.proofs.OtherDecisions.{decisions_leave_others}
use Rattle.ptk_words_laws.proofs.laws.decisions_leave_others.Goals as goal

pub returns : goal.returns
returns c = decisions_leave_others
