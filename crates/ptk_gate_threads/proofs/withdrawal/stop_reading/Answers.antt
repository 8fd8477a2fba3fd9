use Rattle.std.proofs.Common.{rules}
use Rattle.ptk_gate_threads.proofs.withdrawal.stop_reading.Goals as goal

pub returns : goal.returns
returns c = search rules
