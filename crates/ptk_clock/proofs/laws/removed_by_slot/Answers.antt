use Rattle.ptk_clock.proofs.BySlot.{deadlines_from-without, deadlines_from-without_other}
use Rattle.ptk_clock.proofs.laws.removed_by_slot.Goals as goal

pub returns-clause-own : goal.returns-clause-own
returns-clause-own c = λ first n slot pairs le lt. deadlines_from-without first n slot pairs le lt

pub returns-clause-others : goal.returns-clause-others
returns-clause-others c = λ first n slot pairs away. deadlines_from-without_other first n slot pairs away
