use Rattle.std.proofs.Common.{ap}
use Rattle.ptk_roster.specs.Rosters.{Rostered}
use Rattle.ptk_roster.proofs.Opens.{pool_parts, may_change_at, changed_whole_slot, changed_seen}
use Rattle.ptk_roster.proofs.roster.Roster.change_mutex.Goals as goal

pub change_in-requires : goal.change_in-requires
change_in-requires c = may_change_at c.args.change c.self.inside.threads.queues c.self.inside.mutexes c.args.self.now.mutexes c.lend.result.now c.args.p c.args.m c.lend.ensures.value (ap (λ (n : Rostered). n.mutexes) c.self.view_is) c.requires.possible

pub invariant_of-self : goal.invariant_of-self
invariant_of-self c = changed_whole_slot 4611686018427387904 c.self.inside.line c.self.inside.threads c.self.inside.mutexes c.self.inside.conditions c.args.p c.args.m c.args.change c.lend.result.now c.change_in.new.slots (pool_parts 4611686018427387904 c.self.inside.line c.self.inside.threads c.self.inside.mutexes c.self.inside.conditions c.args.self.now c.args.p c.self.view_is c.self.invariant c.requires.partition).0 c.lend.ensures.value c.change_in.ensures c.self.invariant

pub returns : goal.returns
returns c = changed_seen c.self.inside.line c.self.inside.threads c.self.inside.mutexes c.self.inside.conditions c.args.self.now c.args.p c.args.m c.args.change c.lend.result.now c.change_in.new.slots (pool_parts 4611686018427387904 c.self.inside.line c.self.inside.threads c.self.inside.mutexes c.self.inside.conditions c.args.self.now c.args.p c.self.view_is c.self.invariant c.requires.partition).0 c.lend.ensures.value c.change_in.ensures c.self.view_is
