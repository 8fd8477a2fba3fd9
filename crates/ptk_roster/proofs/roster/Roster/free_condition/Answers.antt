use Rattle.std.proofs.Common.{suc, not, ◌∙◌, ap, add-one}
use Rattle.std.specs.Prelude.{Some, option_map, position}
use Rattle.ptk_roster.specs.Rosters.{Rostered}
use Rattle.ptk_roster.proofs.Seen.{least_condition}
use Rattle.ptk_roster.proofs.roster.Roster.free_condition.Goals as goal

pub returns : goal.returns
returns c =
    ap Some (c.new.ensures ∙ add-one c.in_ok-place.place) ∙ (ap (option_map suc) (c.in_ok-place.ensures ∙ ap (position (λ b. not b)) c.part.ensures)
    ∙ least_condition c.self.inside.threads.queues c.self.inside.conditions c.args.self.now.conditions c.args.p (ap (λ (n : Rostered). n.conditions) c.self.view_is))

pub returns-in_err-place : goal.returns-in_err-place
returns-in_err-place c =
    rw c.from_residual.ensures (ap (option_map suc) (c.in_err-place.ensures ∙ ap (position (λ b. not b)) c.part.ensures)
    ∙ least_condition c.self.inside.threads.queues c.self.inside.conditions c.args.self.now.conditions c.args.p (ap (λ (n : Rostered). n.conditions) c.self.view_is))
