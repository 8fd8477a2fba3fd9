use Rattle.std.proofs.Common.{rules}
use Rattle.ptk_gate_threads.proofs.clock_calls.sleep.Goals as goal

pub returns-else-ticks-clause-moved : goal.returns-else-ticks-clause-moved
returns-else-ticks-clause-moved c = search rules
