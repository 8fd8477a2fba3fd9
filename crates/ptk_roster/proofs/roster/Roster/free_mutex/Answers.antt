use Rattle.std.proofs.Common.{suc, ◌∙◌, ap, add-one}
use Rattle.std.specs.Prelude.{Some, option_map, position, is_none}
use Rattle.ptk_roster.specs.Rosters.{Rostered}
use Rattle.ptk_roster.proofs.Seen.{least_mutex}
use Rattle.ptk_roster.proofs.roster.Roster.free_mutex.Goals as goal

pub returns : goal.returns
returns c =
    ap Some (c.new.ensures ∙ add-one c.in_ok-place.place) ∙ (ap (option_map suc) (c.in_ok-place.ensures ∙ ap (position is_none) c.part.ensures)
    ∙ least_mutex c.self.inside.threads.queues c.self.inside.mutexes c.args.self.now.mutexes c.args.p (ap (λ (n : Rostered). n.mutexes) c.self.view_is))

pub returns-in_err-place : goal.returns-in_err-place
returns-in_err-place c =
    rw c.from_residual.ensures (ap (option_map suc) (c.in_err-place.ensures ∙ ap (position is_none) c.part.ensures)
    ∙ least_mutex c.self.inside.threads.queues c.self.inside.mutexes c.args.self.now.mutexes c.args.p (ap (λ (n : Rostered). n.mutexes) c.self.view_is))
