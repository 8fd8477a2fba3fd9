use Rattle.std.proofs.Common.{rules}
use Rattle.ptk_system_machine.proofs.turns.quiet_within.Goals as goal

pub returns-clause-stop : goal.returns-clause-stop
returns-clause-stop c = search rules
