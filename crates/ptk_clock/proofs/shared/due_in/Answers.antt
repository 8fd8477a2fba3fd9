use Rattle.std.proofs.Common.{◌∙◌}
use Rattle.ptk_clock.proofs.Places.{find-due}
use Rattle.ptk_clock.proofs.shared.due_in.Goals as goal

pub returns : goal.returns
returns c = c.least_among.ensures ∙ find-due _ _ _ _ _ c.due_count-due.ensures.within c.due_count-due.ensures.due c.due_count-due.ensures.later
