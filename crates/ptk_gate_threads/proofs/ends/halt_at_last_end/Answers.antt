use Rattle.std.proofs.Common.{rules}
use Rattle.ptk_gate_threads.proofs.ends.halt_at_last_end.Goals as goal

pub returns : goal.returns
returns c = search rules
