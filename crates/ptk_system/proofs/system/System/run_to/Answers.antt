use Rattle.std.proofs.Common.{rules}
use Rattle.ptk_system.proofs.system.System.run_to.Goals as goal

pub returns-else-ticks : goal.returns-else-ticks
returns-else-ticks c = search rules
