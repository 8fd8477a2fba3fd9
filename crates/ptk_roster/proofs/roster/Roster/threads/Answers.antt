use Rattle.std.proofs.Common.{subst}
use Rattle.ptk_roster.specs.Rosters.{Rostered, AreQueuesOf}
use Rattle.ptk_roster.proofs.Pools.{queues_of}
use Rattle.ptk_roster.proofs.roster.Roster.threads.Goals as goal

pub returns-clause-queues : goal.returns-clause-queues
returns-clause-queues c = subst (λ (n : Rostered). AreQueuesOf n c.self.inside.threads.queues) c.self.view_is (queues_of 4611686018427387904 c.self.inside.line c.self.inside.threads c.self.inside.mutexes c.self.inside.conditions c.self.invariant)
