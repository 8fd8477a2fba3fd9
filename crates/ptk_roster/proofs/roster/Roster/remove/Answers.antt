use Rattle.std.proofs.Common.{lit<}
use Rattle.ptk_words.specs.Pools.{without}
use Rattle.ptk_words.specs.Parts.{part_of}
use Rattle.ptk_ready.specs.Partitions.{lines_by}
use Rattle.ptk_roster.proofs.Rosters.{moved_roster, without_used}
use Rattle.ptk_roster.proofs.Pools.{line_parts, moved_whole, mutexes_seen}
use Rattle.ptk_roster.proofs.roster.Roster.remove.Goals as goal

pub remove-requires : goal.remove-requires
remove-requires c = (lit< tt, (line_parts 4611686018427387904 c.self.inside.line c.self.inside.threads c.self.inside.mutexes c.self.inside.conditions c.args.self.now c.args.p c.self.view_is c.self.invariant c.requires, c.self.invariant.lined.filed))

pub invariant_of-self : goal.invariant_of-self
invariant_of-self c =
    moved_whole 4611686018427387904 c.self.inside.line c.remove.new.self c.self.inside.threads c.remove.new.threads c.self.inside.mutexes c.self.inside.conditions
    (moved_roster 4611686018427387904 c.self.inside.line c.remove.new.self c.self.inside.threads c.remove.new.threads c.args.p (without c.args.k (part_of (lines_by c.self.inside.line c.self.inside.threads.queues) c.args.p)) c.self.invariant.lined
    c.remove.ensures.sound c.remove.ensures.threads c.remove.ensures.stored c.remove.ensures.line
    (without_used c.self.inside.threads c.args.p c.args.k (part_of (lines_by c.self.inside.line c.self.inside.threads.queues) c.args.p) (λ j inside. c.self.invariant.lined.listed c.args.p j inside)))
    c.remove.ensures.waiters c.remove.ensures.threads c.self.invariant

pub returns-clause-mutexes : goal.returns-clause-mutexes
returns-clause-mutexes c = (mutexes_seen c.self.inside.line c.self.inside.threads c.remove.new.threads c.self.inside.mutexes c.self.inside.conditions c.args.self.now c.self.view_is c.remove.ensures.waiters).0

pub returns-clause-conditions : goal.returns-clause-conditions
returns-clause-conditions c = (mutexes_seen c.self.inside.line c.self.inside.threads c.remove.new.threads c.self.inside.mutexes c.self.inside.conditions c.args.self.now c.self.view_is c.remove.ensures.waiters).1
