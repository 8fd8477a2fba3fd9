use Rattle.std.proofs.Common.{rules}
use Rattle.ptk_gate_threads.proofs.unwinding.return_from.Goals as goal

pub returns-then-thread : goal.returns-then-thread
returns-then-thread c = search rules
