use Rattle.std.proofs.Common.{rules}
use Rattle.ptk_mutex.proofs.walk.visit.Goals as goal

pub returns-clause-counted : goal.returns-clause-counted
returns-clause-counted c = search rules
