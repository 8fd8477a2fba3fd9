use Rattle.std.proofs.Common.{◌+◌, [], ◌∷◌, ◌++◌, refl, ◌∙◌, ap, arith}
use Rattle.std.specs.Prelude.{Some}
use Rattle.ptk_words.specs.Parts.{part_of}
use Rattle.ptk_threads.specs.Table.{ThreadTable, with_changed, with_wait, with_queues}
use Rattle.ptk_threads.specs.Queues.{with_last}
use Rattle.ptk_threads.specs.declared.link.QueueName.TheVariants.{MutexWaiters}
use Rattle.ptk_roster.specs.Waiters.{waited_by}
use Rattle.ptk_roster.specs.Rosters.{Rostered}
use Rattle.ptk_roster.proofs.Pools.{pushed, line_parts, changed_whole}
use Rattle.ptk_roster.proofs.Waits.{has_queues, mutex_whole, awaited_seen, unawaited, used_mutex, unused_mutex}
use Rattle.ptk_roster.proofs.Passed.{changed_seen}
use Rattle.ptk_roster.proofs.roster.Roster.wait_for_mutex.Goals as goal

pub append_updated-requires-clause-free : goal.append_updated-requires-clause-free
append_updated-requires-clause-free c = (pushed 4611686018427387904 c.self.inside.line c.self.inside.threads c.self.inside.mutexes c.self.inside.conditions c.args.self.now c.args.p c.args.k c.self.view_is c.self.invariant c.requires.partition c.requires.in_use c.requires.fresh c.requires.free).free

pub invariant_of-self : goal.invariant_of-self
invariant_of-self c =
    let mid : ThreadTable = with_queues c.args.p (with_last (MutexWaiters c.args.m) c.args.k) c.self.inside.threads in
    changed_whole 4611686018427387904 c.self.inside.line c.args.p c.args.k (with_wait (Some c.args.wait)) mid c.append_updated.new.self c.self.inside.mutexes c.self.inside.conditions c.append_updated.ensures (line_parts 4611686018427387904 c.self.inside.line c.self.inside.threads c.self.inside.mutexes c.self.inside.conditions c.args.self.now c.args.p c.self.view_is c.self.invariant c.requires.partition).1
    (mutex_whole 4611686018427387904 c.self.inside.line c.self.inside.threads mid c.self.inside.mutexes c.self.inside.conditions c.args.p c.args.m (part_of (part_of c.self.inside.threads.queues c.args.p) (c.args.m + 31) ++ c.args.k ∷ []) (omega (arith, c.number-number.ensures.value, c.number-number.ensures.positive)) (omega (arith, c.number-number.ensures.value, c.number-number.ensures.in_range))
    (λ none. absurd (used_mutex (part_of c.self.inside.mutexes c.args.p) c.part.result.now c.args.m c.is_mutex.result c.part.ensures c.is_mutex.ensures c.if-is_mutex.true none)) refl c.self.invariant)

pub invariant_of-self-else-is_mutex : goal.invariant_of-self-else-is_mutex
invariant_of-self-else-is_mutex c =
    changed_whole 4611686018427387904 c.self.inside.line c.args.p c.args.k (with_wait (Some c.args.wait)) c.self.inside.threads c.update.new.self c.self.inside.mutexes c.self.inside.conditions c.update.ensures (line_parts 4611686018427387904 c.self.inside.line c.self.inside.threads c.self.inside.mutexes c.self.inside.conditions c.args.self.now c.args.p c.self.view_is c.self.invariant c.requires.partition).1 c.self.invariant

pub returns-then-is_mutex : goal.returns-then-is_mutex
returns-then-is_mutex c =
    let mid : ThreadTable = with_queues c.args.p (with_last (MutexWaiters c.args.m) c.args.k) c.self.inside.threads in
    changed_seen c.self.inside.line mid c.append_updated.new.self c.self.inside.mutexes c.self.inside.conditions _ c.args.p c.args.k (with_wait (Some c.args.wait))
    (awaited_seen 4611686018427387904 c.self.inside.line c.self.inside.threads mid c.self.inside.mutexes c.self.inside.conditions c.args.self.now c.args.p c.args.m c.args.k (has_queues 4611686018427387904 c.self.inside.line c.self.inside.threads c.self.inside.mutexes c.self.inside.conditions c.args.self.now c.args.p c.self.view_is c.self.invariant c.requires.partition c.parts-parts.ensures.queues) (omega (arith, c.number-number.ensures.value, c.number-number.ensures.positive)) (omega (arith, c.number-number.ensures.value, c.number-number.ensures.in_range)) c.self.view_is refl) c.append_updated.ensures

pub returns-else-is_mutex : goal.returns-else-is_mutex
returns-else-is_mutex c =
    changed_seen c.self.inside.line c.self.inside.threads c.update.new.self c.self.inside.mutexes c.self.inside.conditions c.args.self.now c.args.p c.args.k (with_wait (Some c.args.wait)) c.self.view_is c.update.ensures
    ∙ ap (λ (n : Rostered). record n { table = with_changed c.args.p c.args.k (with_wait (Some c.args.wait)) n.table })
    (unawaited c.self.inside.threads.queues c.self.inside.mutexes c.args.p c.args.m (waited_by c.args.k) c.args.self.now (ap (λ (n : Rostered). n.mutexes) c.self.view_is) (unused_mutex (part_of c.self.inside.mutexes c.args.p) c.part.result.now c.args.m c.is_mutex.result c.part.ensures c.is_mutex.ensures c.if-is_mutex.false))
