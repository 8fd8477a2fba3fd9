use Rattle.std.proofs.Common.{rules}
use Rattle.ptk_system_machine.proofs.account.duration.Goals as goal

pub returns-in-Idle-clause-value : goal.returns-in-Idle-clause-value
returns-in-Idle-clause-value c = search rules
