use Rattle.std.proofs.Common.{rules}
use Rattle.ptk_roster.proofs.priorities.raise.Goals as goal

pub returns-then-i-stored : goal.returns-then-i-stored
returns-then-i-stored c = search rules
