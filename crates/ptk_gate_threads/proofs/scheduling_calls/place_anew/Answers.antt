use Rattle.std.proofs.Common.{rules}
use Rattle.ptk_gate_threads.proofs.scheduling_calls.place_anew.Goals as goal

pub returns-then-level-2 : goal.returns-then-level-2
returns-then-level-2 c = search rules
