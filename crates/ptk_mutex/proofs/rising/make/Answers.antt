use Rattle.std.proofs.Common.{rules}
use Rattle.ptk_mutex.proofs.rising.make.Goals as goal

pub returns-in-Waits-clause-roster : goal.returns-in-Waits-clause-roster
returns-in-Waits-clause-roster c = search rules
