use Rattle.std.proofs.Common.{lit<}
use Rattle.ptk_words.specs.Parts.{part_of}
use Rattle.ptk_ready.specs.Lines.{without_one}
use Rattle.ptk_ready.specs.Partitions.{lines_by}
use Rattle.ptk_roster.proofs.Rosters.{moved_roster, without_one_used}
use Rattle.ptk_roster.proofs.Pools.{line_parts, moved_whole, line_seen}
use Rattle.ptk_roster.proofs.roster.Roster.take_first.Goals as goal

pub take_first-requires : goal.take_first-requires
take_first-requires c = (lit< tt, (line_parts 4611686018427387904 c.self.inside.line c.self.inside.threads c.self.inside.mutexes c.self.inside.conditions c.args.self.now c.args.p c.self.view_is c.self.invariant c.requires, c.self.invariant.lined.filed))

pub invariant_of-self : goal.invariant_of-self
invariant_of-self c =
    moved_whole 4611686018427387904 c.self.inside.line c.take_first.new.self c.self.inside.threads c.take_first.new.threads c.self.inside.mutexes c.self.inside.conditions
    (moved_roster 4611686018427387904 c.self.inside.line c.take_first.new.self c.self.inside.threads c.take_first.new.threads c.args.p (without_one c.take_first.result (part_of (lines_by c.self.inside.line c.self.inside.threads.queues) c.args.p)) c.self.invariant.lined
    c.take_first.ensures.sound c.take_first.ensures.threads c.take_first.ensures.stored c.take_first.ensures.line
    (without_one_used c.self.inside.threads c.args.p c.take_first.result (part_of (lines_by c.self.inside.line c.self.inside.threads.queues) c.args.p) (λ j inside. c.self.invariant.lined.listed c.args.p j inside)))
    c.take_first.ensures.waiters c.take_first.ensures.threads c.self.invariant

pub returns-clause-moved : goal.returns-clause-moved
returns-clause-moved c =
    line_seen c.self.inside.line c.take_first.new.self c.self.inside.threads c.take_first.new.threads c.self.inside.mutexes c.self.inside.conditions c.args.self.now c.args.p (without_one c.take_first.result) c.self.view_is
    c.take_first.ensures.waiters c.take_first.ensures.line c.take_first.ensures.threads c.take_first.ensures.stored
