use Rattle.ptk_words_laws.proofs.PriorityLaws.{priority_greatest}
use Rattle.ptk_words_laws.proofs.laws.priority_is_greatest.Goals as goal

pub returns : goal.returns
returns c = priority_greatest
