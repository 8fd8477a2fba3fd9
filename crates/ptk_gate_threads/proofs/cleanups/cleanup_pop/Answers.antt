use Rattle.std.proofs.Common.{rules}
use Rattle.ptk_gate_threads.proofs.cleanups.cleanup_pop.Goals as goal

pub returns-in-Some-clause-moved : goal.returns-in-Some-clause-moved
returns-in-Some-clause-moved c = search rules
