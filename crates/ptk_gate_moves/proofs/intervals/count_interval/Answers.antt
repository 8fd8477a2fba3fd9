use Rattle.std.proofs.Common.{rules}
use Rattle.ptk_gate_moves.proofs.intervals.count_interval.Goals as goal

pub returns-else-interval-used : goal.returns-else-interval-used
returns-else-interval-used c = search rules
