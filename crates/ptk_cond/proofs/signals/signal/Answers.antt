use Rattle.std.proofs.Common.{rules}
use Rattle.ptk_cond.proofs.signals.signal.Goals as goal

pub returns-clause-roster : goal.returns-clause-roster
returns-clause-roster c = search rules

pub returns-clause-visited : goal.returns-clause-visited
returns-clause-visited c = search rules

pub returns-clause-unvisited : goal.returns-clause-unvisited
returns-clause-unvisited c = search rules
