use Rattle.std.proofs.Common.{rules}
use Rattle.ptk_system_machine.proofs.machine.next_from.Goals as goal

pub returns-in-Some : goal.returns-in-Some
returns-in-Some c = search rules
