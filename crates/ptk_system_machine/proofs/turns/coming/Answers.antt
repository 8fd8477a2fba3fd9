use Rattle.std.proofs.Common.{rules}
use Rattle.ptk_system_machine.proofs.turns.coming.Goals as goal

pub returns-in-Some-clause-due : goal.returns-in-Some-clause-due
returns-in-Some-clause-due c = search rules

pub returns-in-Some-clause-before : goal.returns-in-Some-clause-before
returns-in-Some-clause-before c = search rules
