use Rattle.std.proofs.Common.{◌∙◌, sym, ap}
use Rattle.ptk_clock.specs.Pairs.{DeadlineTable, least_due}
use Rattle.ptk_clock.proofs.Expiries.{next_found}
use Rattle.ptk_clock.proofs.Leasts.{due_least}
use Rattle.ptk_clock.proofs.shared.SharedDeadlinesDeadlines.due.Goals as goal

pub returns-clause-least : goal.returns-clause-least
returns-clause-least c =
    due_least c.args.first c.args.last c.args.now _ _ _ c.pairs.ensures.in_order (ap (λ (t : DeadlineTable). t.pairs) c.self.view_is)
    (c.due_in.ensures ∙ ap (least_due c.args.first c.args.last c.args.now) c.pairs.ensures.value)

pub returns-clause-next : goal.returns-clause-next
returns-clause-next c =
    next_found c.args.first c.args.last c.args.now _ _ _ c.pairs.ensures.in_order (ap (λ (t : DeadlineTable). t.pairs) c.self.view_is)
    (sym (c.due_in.ensures ∙ ap (least_due c.args.first c.args.last c.args.now) c.pairs.ensures.value))
