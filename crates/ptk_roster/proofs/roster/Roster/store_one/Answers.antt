use Rattle.std.proofs.Common.{◌<◌, lit<, refl, sym, subst, arith}
use Rattle.std.specs.Prelude.{IsSome}
use Rattle.ptk_words.specs.Pools.{is_in}
use Rattle.ptk_words.specs.Parts.{part_of}
use Rattle.ptk_threads.specs.Table.{thread_in}
use Rattle.ptk_threads.proofs.Along.{not_true}
use Rattle.ptk_ready.specs.Partitions.{lines_by}
use Rattle.ptk_ready.proofs.Partitions.{priority_out}
use Rattle.ptk_roster.specs.Rosters.{Rostered}
use Rattle.ptk_roster.proofs.Rosters.{stored_roster}
use Rattle.ptk_roster.proofs.Pools.{line_parts, moved_whole, mutexes_seen}
use Rattle.ptk_roster.proofs.roster.Roster.store_one.Goals as goal

pub invariant_of-self : goal.invariant_of-self
invariant_of-self c =
    let positive : IsSome (thread_in c.self.inside.threads c.args.p c.args.k) → 0 < c.args.level = subst (λ (n : Rostered). IsSome (thread_in n.table c.args.p c.args.k) → 0 < c.args.level) (sym c.self.view_is) c.requires.positive in
    let out = not_true (is_in c.args.k (part_of (lines_by c.self.inside.line c.self.inside.threads.queues) c.args.p))
    (λ inside. (let more = positive (c.self.invariant.lined.listed c.args.p c.args.k inside) in absurd (omega (arith, more, c.if-level-eq0.true)))) in
    rw c.set_stored_priority.ensures
    (moved_whole 4611686018427387904 c.self.inside.line c.self.inside.line c.self.inside.threads _ c.self.inside.mutexes c.self.inside.conditions
    (stored_roster 4611686018427387904 c.self.inside.line c.self.inside.line c.self.inside.threads _ c.args.p c.args.k 0 c.self.invariant.lined
    (priority_out 4611686018427387904 c.self.inside.line c.self.inside.threads c.args.p c.args.k 0 c.self.invariant.lined.filed out) refl refl refl (omega arith)
    (λ used. (let more = positive used in absurd (omega (arith, more, c.if-level-eq0.true)))))
    refl refl c.self.invariant)

pub set_priority-requires : goal.set_priority-requires
set_priority-requires c = (lit< tt, (line_parts 4611686018427387904 c.self.inside.line c.self.inside.threads c.self.inside.mutexes c.self.inside.conditions c.args.self.now c.args.p c.self.view_is c.self.invariant c.requires.partition, c.self.invariant.lined.filed))

pub invariant_of-self-then-level-stored_priority : goal.invariant_of-self-then-level-stored_priority
invariant_of-self-then-level-stored_priority c =
    moved_whole 4611686018427387904 c.self.inside.line c.set_priority.new.self c.self.inside.threads c.set_priority.new.threads c.self.inside.mutexes c.self.inside.conditions
    (stored_roster 4611686018427387904 c.self.inside.line c.set_priority.new.self c.self.inside.threads c.set_priority.new.threads c.args.p c.args.k c.new.result c.self.invariant.lined
    c.set_priority.ensures.sound c.set_priority.ensures.line c.set_priority.ensures.threads c.set_priority.ensures.stored (rw c.new.ensures c.requires.in_range) (λ used. rw c.new.ensures (omega (arith, c.if-level-eq0.false))))
    c.set_priority.ensures.waiters c.set_priority.ensures.threads c.self.invariant

pub returns-then-level-stored_priority-clause-mutexes : goal.returns-then-level-stored_priority-clause-mutexes
returns-then-level-stored_priority-clause-mutexes c = (mutexes_seen c.self.inside.line c.self.inside.threads c.set_priority.new.threads c.self.inside.mutexes c.self.inside.conditions c.args.self.now c.self.view_is c.set_priority.ensures.waiters).0

pub returns-then-level-stored_priority-clause-conditions : goal.returns-then-level-stored_priority-clause-conditions
returns-then-level-stored_priority-clause-conditions c = (mutexes_seen c.self.inside.line c.self.inside.threads c.set_priority.new.threads c.self.inside.mutexes c.self.inside.conditions c.args.self.now c.self.view_is c.set_priority.ensures.waiters).1
