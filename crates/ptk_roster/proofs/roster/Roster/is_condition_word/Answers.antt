use Rattle.std.proofs.Common.{◌-◌, false, get_or, ◌∙◌, ap, List, Bool}
use Rattle.ptk_roster.specs.Rosters.{Rostered}
use Rattle.ptk_roster.proofs.Seen.{is_some_at}
use Rattle.ptk_roster.proofs.roster.Roster.is_condition_word.Goals as goal

pub returns : goal.returns
returns c = c.is_used_at.ensures ∙ (ap (λ (l : List Bool). get_or l (c.args.word - 1) false) c.part.ensures ∙ is_some_at c.self.inside.threads.queues c.self.inside.conditions c.args.self.now.conditions c.args.p c.args.word c.requires.positive (ap (λ (n : Rostered). n.conditions) c.self.view_is))
