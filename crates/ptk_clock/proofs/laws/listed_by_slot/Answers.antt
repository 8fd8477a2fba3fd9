use Rattle.ptk_clock.proofs.Expiries.{length-deadlines_from, deadlines_from_none, slot_free}
use Rattle.ptk_clock.proofs.laws.listed_by_slot.Goals as goal

pub returns-clause-count : goal.returns-clause-count
returns-clause-count c = λ first n pairs. length-deadlines_from first n pairs

pub returns-clause-empty : goal.returns-clause-empty
returns-clause-empty c = λ first n. deadlines_from_none first n

pub returns-clause-free : goal.returns-clause-free
returns-clause-free c = λ first n slot pairs low high none. slot_free first n slot pairs low high none
