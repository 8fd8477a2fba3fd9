use Rattle.std.proofs.Common.{rules}
use Rattle.ptk_cond.proofs.conditions.open_free.Goals as goal

pub returns-in-Some-clause-roster : goal.returns-in-Some-clause-roster
returns-in-Some-clause-roster c = search rules
