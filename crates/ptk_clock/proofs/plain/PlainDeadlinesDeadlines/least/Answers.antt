use Rattle.std.proofs.Common.{ap, subst}
use Rattle.ptk_clock.specs.Pairs.{DeadlineTable, AreInOrder}
use Rattle.ptk_clock.proofs.Leasts.{least-among}
use Rattle.ptk_clock.proofs.plain.PlainDeadlinesDeadlines.least.Goals as goal

pub returns-clause-least : goal.returns-clause-least
returns-clause-least c = least-among _ _ _ (subst AreInOrder (ap (λ (t : DeadlineTable). t.pairs) c.self.view_is) c.pairs.ensures.in_order)
