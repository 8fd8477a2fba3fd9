use Rattle.ptk_clock.proofs.BySlot.{deadlines_from-with, deadlines_from-with_other}
use Rattle.ptk_clock.proofs.laws.added_by_slot.Goals as goal

pub returns-clause-own : goal.returns-clause-own
returns-clause-own c = λ first n deadline slot pairs out le lt. deadlines_from-with first n deadline slot pairs out le lt

pub returns-clause-others : goal.returns-clause-others
returns-clause-others c = λ first n deadline slot pairs out away. deadlines_from-with_other first n deadline slot pairs out away
