use Rattle.std.proofs.Common.{◌∙◌, ap}
use Rattle.ptk_roster.specs.Rosters.{Rostered}
use Rattle.ptk_roster.proofs.Seen.{bare_at}
use Rattle.ptk_roster.proofs.roster.Roster.mutex_slots.Goals as goal

pub returns-clause-mutexes : goal.returns-clause-mutexes
returns-clause-mutexes c = c.part.ensures ∙ bare_at c.self.inside.threads.queues c.self.inside.mutexes c.args.self.now.mutexes c.args.p (ap (λ (n : Rostered). n.mutexes) c.self.view_is) (λ m. c.self.invariant.pools.bare_mutexes c.args.p m)
