use Rattle.ptk_words_laws.proofs.ArrivalLaws.{arrivals_due}
use Rattle.ptk_words_laws.proofs.laws.arrivals_are_due.Goals as goal

pub returns : goal.returns
returns c = arrivals_due
