use Rattle.std.proofs.Common.{rules}
use Rattle.ptk_system.proofs.activity.activity_of_wait.Goals as goal

pub returns-in-Some : goal.returns-in-Some
returns-in-Some c = search rules
