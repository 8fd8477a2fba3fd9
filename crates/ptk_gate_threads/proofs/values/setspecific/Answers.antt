use Rattle.std.proofs.Common.{rules}
use Rattle.ptk_gate_threads.proofs.values.setspecific.Goals as goal

pub returns-clause-moved : goal.returns-clause-moved
returns-clause-moved c = search rules
