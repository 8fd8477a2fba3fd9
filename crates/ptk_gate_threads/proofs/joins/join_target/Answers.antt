use Rattle.std.proofs.Common.{rules}
use Rattle.ptk_gate_threads.proofs.joins.join_target.Goals as goal

pub returns-then-is_ended-clause-moved : goal.returns-then-is_ended-clause-moved
returns-then-is_ended-clause-moved c = search rules
