use Rattle.std.proofs.Common.{rules}
use Rattle.ptk_gate_threads.proofs.unwinding.call_destructor_or_end.Goals as goal

pub returns-in-Some : goal.returns-in-Some
returns-in-Some c = search rules
