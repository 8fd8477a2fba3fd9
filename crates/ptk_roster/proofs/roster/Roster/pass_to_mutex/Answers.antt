use Rattle.std.proofs.Common.{◌+◌, length, ◌<◌, [], ◌∷◌, ◌++◌, refl, sym, ◌∙◌, ap, subst, arith}
use Rattle.std.specs.Prelude.{Some, IsSome}
use Rattle.std.proofs.Math.ListN.{set}
use Rattle.ptk_words.specs.Pools.{pool_get, pool_set, without}
use Rattle.ptk_words.specs.Parts.{part_of}
use Rattle.ptk_words_model.specs.Condition.{waiters_on}
use Rattle.ptk_threads.specs.Table.{ThreadTable, thread_in, with_changed, with_wait, with_queues}
use Rattle.ptk_threads.specs.Queues.{with_last, with_out}
use Rattle.ptk_threads.specs.declared.link.QueueName.TheVariants.{MutexWaiters, ConditionWaiters}
use Rattle.ptk_threads.specs.Links.{links_of}
use Rattle.ptk_ready.proofs.Partitions.{number_of_used}
use Rattle.ptk_roster.specs.Waiters.{condition_of, waited_by}
use Rattle.ptk_roster.specs.Rosters.{Rostered}
use Rattle.ptk_roster.proofs.Pools.{line_parts, changed_whole}
use Rattle.ptk_roster.proofs.Waits.{has_queues, mutex_whole, condition_whole, awaited_seen, slept_seen, unawaited, used_mutex, unused_mutex, used_mark, sleeper_in}
use Rattle.ptk_roster.proofs.Passed.{away, has_still, changed_seen}
use Rattle.ptk_roster.proofs.roster.Roster.pass_to_mutex.Goals as goal

pub pass_updated-requires-clause-free : goal.pass_updated-requires-clause-free
pass_updated-requires-clause-free c =
    away (links_of c.linked-part.result.slots.now) c.linked-part.result.ends.now c.self.inside.threads c.args.p (c.args.c + 95) c.args.k c.linked-part.ensures.sound c.linked-part.ensures.lists (has_queues 4611686018427387904 c.self.inside.line c.self.inside.threads c.self.inside.mutexes c.self.inside.conditions c.args.self.now c.args.p c.self.view_is c.self.invariant c.requires.partition c.parts-parts.ensures.queues) (omega (arith, c.number-condition.ensures.value, c.number-condition.ensures.in_range)) (sleeper_in c.self.inside.threads c.self.inside.mutexes c.self.inside.conditions c.args.self.now.conditions c.args.p c.args.c c.args.k c.self.invariant.pools (omega (arith, c.number-condition.ensures.value, c.number-condition.ensures.positive)) (ap (λ (n : Rostered). n.conditions) c.self.view_is) c.requires.waits)

pub take_from-requires-clause-slot : goal.take_from-requires-clause-slot
take_from-requires-clause-slot c = number_of_used c.self.inside.threads c.args.p c.args.k (subst (λ (n : Rostered). IsSome (thread_in n.table c.args.p c.args.k)) (sym c.self.view_is) c.requires.in_use)

pub update-requires-clause-in_use : goal.update-requires-clause-in_use
update-requires-clause-in_use c = subst (λ (t : ThreadTable). IsSome (thread_in t c.args.p c.args.k)) (sym c.take_from.ensures.table) (subst (λ (n : Rostered). IsSome (thread_in n.table c.args.p c.args.k)) (sym c.self.view_is) c.requires.in_use)

pub invariant_of-self : goal.invariant_of-self
invariant_of-self c =
    let left : ThreadTable = with_queues c.args.p (with_out (ConditionWaiters c.args.c) c.args.k) c.self.inside.threads in
    let mid : ThreadTable = with_queues c.args.p (with_last (MutexWaiters c.args.m) c.args.k) left in
    changed_whole 4611686018427387904 c.self.inside.line c.args.p c.args.k (with_wait (Some c.args.wait)) mid c.pass_updated.new.self c.self.inside.mutexes c.self.inside.conditions c.pass_updated.ensures (line_parts 4611686018427387904 c.self.inside.line c.self.inside.threads c.self.inside.mutexes c.self.inside.conditions c.args.self.now c.args.p c.self.view_is c.self.invariant c.requires.partition).1
    (mutex_whole 4611686018427387904 c.self.inside.line left mid c.self.inside.mutexes c.self.inside.conditions c.args.p c.args.m (part_of (part_of left.queues c.args.p) (c.args.m + 31) ++ c.args.k ∷ []) (omega (arith, c.number-mutex.ensures.value, c.number-mutex.ensures.positive)) (omega (arith, c.number-mutex.ensures.value, c.number-mutex.ensures.in_range))
    (λ none. absurd (used_mutex (part_of c.self.inside.mutexes c.args.p) c.part.result.now c.args.m c.is_mutex.result c.part.ensures c.is_mutex.ensures c.if-is_mutex.true none)) refl
    (condition_whole 4611686018427387904 c.self.inside.line c.self.inside.threads left c.self.inside.mutexes c.self.inside.conditions c.args.p c.args.c (without c.args.k (part_of (part_of c.self.inside.threads.queues c.args.p) (c.args.c + 95))) (omega (arith, c.number-condition.ensures.value, c.number-condition.ensures.positive)) (λ free. ap (without c.args.k) (c.self.invariant.pools.free_conditions c.args.p c.args.c (omega (arith, c.number-condition.ensures.value, c.number-condition.ensures.positive)) free)) refl c.self.invariant))

pub invariant_of-self-else-is_mutex : goal.invariant_of-self-else-is_mutex
invariant_of-self-else-is_mutex c =
    changed_whole 4611686018427387904 c.self.inside.line c.args.p c.args.k (with_wait (Some c.args.wait)) c.take_from.new.self c.update.new.self c.self.inside.mutexes c.self.inside.conditions c.update.ensures
    (subst (λ (t : ThreadTable). c.args.p < length t.threads) (sym c.take_from.ensures.table) (line_parts 4611686018427387904 c.self.inside.line c.self.inside.threads c.self.inside.mutexes c.self.inside.conditions c.args.self.now c.args.p c.self.view_is c.self.invariant c.requires.partition).1)
    (condition_whole 4611686018427387904 c.self.inside.line c.self.inside.threads c.take_from.new.self c.self.inside.mutexes c.self.inside.conditions c.args.p c.args.c (without c.args.k (part_of (part_of c.self.inside.threads.queues c.args.p) (c.args.c + 95))) (omega (arith, c.number-condition.ensures.value, c.number-condition.ensures.positive)) (λ free. ap (without c.args.k) (c.self.invariant.pools.free_conditions c.args.p c.args.c (omega (arith, c.number-condition.ensures.value, c.number-condition.ensures.positive)) free)) c.take_from.ensures.table c.self.invariant)

pub returns-then-is_mutex : goal.returns-then-is_mutex
returns-then-is_mutex c =
    let left : ThreadTable = with_queues c.args.p (with_out (ConditionWaiters c.args.c) c.args.k) c.self.inside.threads in
    let mid : ThreadTable = with_queues c.args.p (with_last (MutexWaiters c.args.m) c.args.k) left in
    changed_seen c.self.inside.line mid c.pass_updated.new.self c.self.inside.mutexes c.self.inside.conditions _ c.args.p c.args.k (with_wait (Some c.args.wait))
    (awaited_seen 4611686018427387904 c.self.inside.line left mid c.self.inside.mutexes c.self.inside.conditions _ c.args.p c.args.m c.args.k (has_still c.self.inside.threads c.args.p (c.args.c + 95) _ (has_queues 4611686018427387904 c.self.inside.line c.self.inside.threads c.self.inside.mutexes c.self.inside.conditions c.args.self.now c.args.p c.self.view_is c.self.invariant c.requires.partition c.parts-parts.ensures.queues)) (omega (arith, c.number-mutex.ensures.value, c.number-mutex.ensures.positive)) (omega (arith, c.number-mutex.ensures.value, c.number-mutex.ensures.in_range))
    (slept_seen 4611686018427387904 c.self.inside.line c.self.inside.threads left c.self.inside.mutexes c.self.inside.conditions c.args.self.now c.args.p c.args.c (without c.args.k) (has_queues 4611686018427387904 c.self.inside.line c.self.inside.threads c.self.inside.mutexes c.self.inside.conditions c.args.self.now c.args.p c.self.view_is c.self.invariant c.requires.partition c.parts-parts.ensures.queues) c.self.invariant (omega (arith, c.number-condition.ensures.value, c.number-condition.ensures.positive)) (omega (arith, c.number-condition.ensures.value, c.number-condition.ensures.in_range)) c.self.view_is (used_mark c.self.inside.threads.queues c.self.inside.conditions c.args.self.now.conditions c.args.p c.args.c (ap (λ (n : Rostered). n.conditions) c.self.view_is) c.requires.used) refl) refl) c.pass_updated.ensures

pub returns-else-is_mutex : goal.returns-else-is_mutex
returns-else-is_mutex c =
    changed_seen c.self.inside.line c.take_from.new.self c.update.new.self c.self.inside.mutexes c.self.inside.conditions _ c.args.p c.args.k (with_wait (Some c.args.wait))
    (slept_seen 4611686018427387904 c.self.inside.line c.self.inside.threads c.take_from.new.self c.self.inside.mutexes c.self.inside.conditions c.args.self.now c.args.p c.args.c (without c.args.k) (has_queues 4611686018427387904 c.self.inside.line c.self.inside.threads c.self.inside.mutexes c.self.inside.conditions c.args.self.now c.args.p c.self.view_is c.self.invariant c.requires.partition c.parts-parts.ensures.queues) c.self.invariant (omega (arith, c.number-condition.ensures.value, c.number-condition.ensures.positive)) (omega (arith, c.number-condition.ensures.value, c.number-condition.ensures.in_range)) c.self.view_is (used_mark c.self.inside.threads.queues c.self.inside.conditions c.args.self.now.conditions c.args.p c.args.c (ap (λ (n : Rostered). n.conditions) c.self.view_is) c.requires.used) c.take_from.ensures.table) c.update.ensures
    ∙ ap (λ (n : Rostered). record n { table = with_changed c.args.p c.args.k (with_wait (Some c.args.wait)) n.table; conditions = set n.conditions c.args.p (pool_set (part_of n.conditions c.args.p) c.args.c (Some (condition_of (without c.args.k (waiters_on (pool_get (part_of n.conditions c.args.p) c.args.c)))))) })
    (unawaited c.self.inside.threads.queues c.self.inside.mutexes c.args.p c.args.m (waited_by c.args.k) c.args.self.now (ap (λ (n : Rostered). n.mutexes) c.self.view_is) (unused_mutex (part_of c.self.inside.mutexes c.args.p) c.part.result.now c.args.m c.is_mutex.result c.part.ensures c.is_mutex.ensures c.if-is_mutex.false))
