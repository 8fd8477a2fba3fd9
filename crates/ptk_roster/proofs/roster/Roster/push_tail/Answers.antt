use Rattle.std.proofs.Common.{lit<, [], ◌∷◌, ◌++◌}
use Rattle.ptk_words.specs.Parts.{part_of}
use Rattle.ptk_ready.specs.Partitions.{lines_by}
use Rattle.ptk_roster.proofs.Rosters.{moved_roster, last_used}
use Rattle.ptk_roster.proofs.Pools.{pushed, moved_whole, mutexes_seen}
use Rattle.ptk_roster.proofs.roster.Roster.push_tail.Goals as goal

pub push_tail-requires : goal.push_tail-requires
push_tail-requires c =
    let own = pushed 4611686018427387904 c.self.inside.line c.self.inside.threads c.self.inside.mutexes c.self.inside.conditions c.args.self.now c.args.p c.args.k c.self.view_is c.self.invariant c.requires.partition c.requires.in_use c.requires.fresh c.requires.free in
    (lit< tt, (own.parts, (own.used, (own.out, (c.self.invariant.lined.filed, (own.free, own.level))))))

pub invariant_of-self : goal.invariant_of-self
invariant_of-self c =
    let own = pushed 4611686018427387904 c.self.inside.line c.self.inside.threads c.self.inside.mutexes c.self.inside.conditions c.args.self.now c.args.p c.args.k c.self.view_is c.self.invariant c.requires.partition c.requires.in_use c.requires.fresh c.requires.free in
    moved_whole 4611686018427387904 c.self.inside.line c.push_tail.new.self c.self.inside.threads c.push_tail.new.threads c.self.inside.mutexes c.self.inside.conditions
    (moved_roster 4611686018427387904 c.self.inside.line c.push_tail.new.self c.self.inside.threads c.push_tail.new.threads c.args.p (part_of (lines_by c.self.inside.line c.self.inside.threads.queues) c.args.p ++ c.args.k ∷ []) c.self.invariant.lined c.push_tail.ensures.sound c.push_tail.ensures.threads c.push_tail.ensures.stored c.push_tail.ensures.line
    (last_used c.self.inside.threads c.args.p c.args.k (part_of (lines_by c.self.inside.line c.self.inside.threads.queues) c.args.p) own.used (λ j inside. c.self.invariant.lined.listed c.args.p j inside)))
    c.push_tail.ensures.waiters c.push_tail.ensures.threads c.self.invariant

pub returns-clause-mutexes : goal.returns-clause-mutexes
returns-clause-mutexes c = (mutexes_seen c.self.inside.line c.self.inside.threads c.push_tail.new.threads c.self.inside.mutexes c.self.inside.conditions c.args.self.now c.self.view_is c.push_tail.ensures.waiters).0

pub returns-clause-conditions : goal.returns-clause-conditions
returns-clause-conditions c = (mutexes_seen c.self.inside.line c.self.inside.threads c.push_tail.new.threads c.self.inside.mutexes c.self.inside.conditions c.args.self.now c.self.view_is c.push_tail.ensures.waiters).1
