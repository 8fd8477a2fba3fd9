use Rattle.std.proofs.Common.{length, ◌∙◌, sym, ap}
use Rattle.ptk_words.specs.Parts.{part_of}
use Rattle.ptk_roster.specs.Waiters.{condition_if}
use Rattle.ptk_roster.specs.Rosters.{Rostered}
use Rattle.ptk_roster.proofs.Numbered.{length-numbered}
use Rattle.ptk_roster.proofs.Seen.{part_conditions}
use Rattle.ptk_roster.proofs.roster.Roster.condition_limit.Goals as goal

pub returns-clause-value : goal.returns-clause-value
returns-clause-value c =
    ap length c.part.ensures
    ∙ sym (ap length (part_conditions c.self.inside.threads.queues c.self.inside.conditions c.args.p)
    ∙ length-numbered (λ i is_used. condition_if is_used (part_of (part_of c.self.inside.threads.queues c.args.p) i)) 96 (part_of c.self.inside.conditions c.args.p))
    ∙ ap (λ (n : Rostered). length (part_of n.conditions c.args.p)) c.self.view_is
