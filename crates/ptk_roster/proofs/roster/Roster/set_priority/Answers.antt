use Rattle.std.proofs.Common.{lit<}
use Rattle.ptk_roster.proofs.Rosters.{stored_roster}
use Rattle.ptk_roster.proofs.Pools.{line_parts, moved_whole, stored_seen}
use Rattle.ptk_roster.proofs.roster.Roster.set_priority.Goals as goal

pub set_priority-requires : goal.set_priority-requires
set_priority-requires c = (lit< tt, (line_parts 4611686018427387904 c.self.inside.line c.self.inside.threads c.self.inside.mutexes c.self.inside.conditions c.args.self.now c.args.p c.self.view_is c.self.invariant c.requires, c.self.invariant.lined.filed))

pub invariant_of-self : goal.invariant_of-self
invariant_of-self c =
    moved_whole 4611686018427387904 c.self.inside.line c.set_priority.new.self c.self.inside.threads c.set_priority.new.threads c.self.inside.mutexes c.self.inside.conditions
    (stored_roster 4611686018427387904 c.self.inside.line c.set_priority.new.self c.self.inside.threads c.set_priority.new.threads c.args.p c.args.k c.args.priority c.self.invariant.lined
    c.set_priority.ensures.sound c.set_priority.ensures.line c.set_priority.ensures.threads c.set_priority.ensures.stored (rw (← c.level-level.ensures.value) c.level-level.ensures.in_range) (λ used. rw (← c.level-level.ensures.value) c.level-level.ensures.positive))
    c.set_priority.ensures.waiters c.set_priority.ensures.threads c.self.invariant

pub returns : goal.returns
returns c = stored_seen c.self.inside.line c.set_priority.new.self c.self.inside.threads c.set_priority.new.threads c.self.inside.mutexes c.self.inside.conditions c.args.self.now c.args.p c.args.k c.args.priority c.self.view_is
    c.set_priority.ensures.waiters c.set_priority.ensures.line c.set_priority.ensures.threads c.set_priority.ensures.stored
