use Rattle.std.proofs.Common.{rules}
use Rattle.ptk_gate_threads.proofs.withdrawal.withdraw.Goals as goal

pub returns-in-Some-ConditionWait : goal.returns-in-Some-ConditionWait
returns-in-Some-ConditionWait c = search rules
