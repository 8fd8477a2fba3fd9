use Rattle.std.proofs.Common.{rules}
use Rattle.ptk_gate_sync.proofs.locking.wait_timed.Goals as goal

pub returns-else-ticks-clause-moved : goal.returns-else-ticks-clause-moved
returns-else-ticks-clause-moved c = search rules
