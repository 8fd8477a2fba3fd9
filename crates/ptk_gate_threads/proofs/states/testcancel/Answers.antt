use Rattle.std.proofs.Common.{rules}
use Rattle.ptk_gate_threads.proofs.states.testcancel.Goals as goal

pub returns-else-is_cancelled-clause-told : goal.returns-else-is_cancelled-clause-told
returns-else-is_cancelled-clause-told c = search rules

pub returns-else-is_cancelled-clause-moved : goal.returns-else-is_cancelled-clause-moved
returns-else-is_cancelled-clause-moved c = search rules
