use Rattle.std.proofs.Common.{rules}
use Rattle.ptk_system_machine.proofs.turns.first_of.Goals as goal

pub returns-then-ticks-clause-sooner : goal.returns-then-ticks-clause-sooner
returns-then-ticks-clause-sooner c = search rules
