use Rattle.std.proofs.Common.{rules}
use Rattle.ptk_kernel.proofs.Moves.{decision_made}
use Rattle.ptk_kernel.proofs.decisions.decide.Goals as goal

pub returns-clause-moved : goal.returns-clause-moved
returns-clause-moved c = search (rules, decision_made)
