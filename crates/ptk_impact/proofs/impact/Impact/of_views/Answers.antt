use Rattle.std.proofs.Common.{rules, arith}
use Rattle.std.proofs.lemmas.Grind.{common_steps}
use Rattle.ptk_impact.proofs.impact.Impact.of_views.Goals as goal

pub returns-then-eq-clause-views : goal.returns-then-eq-clause-views
returns-then-eq-clause-views c = first_of (search rules, grind (arith, common_steps))

pub returns-then-eq-2-clause-views : goal.returns-then-eq-2-clause-views
returns-then-eq-2-clause-views c = first_of (search rules, grind (arith, common_steps))
