use Rattle.std.proofs.Common.{rules}
use Rattle.ptk_gate_threads.proofs.ends.tell_joiner.Goals as goal

pub returns-in-Some : goal.returns-in-Some
returns-in-Some c = search rules
