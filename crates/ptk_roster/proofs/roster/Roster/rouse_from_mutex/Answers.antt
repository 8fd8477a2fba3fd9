use Rattle.std.proofs.Common.{◌≡◌, ◌+◌, false, true, ◌<◌, ◌≤◌, [], ◌∷◌, ◌++◌, lit<, refl, sym, ◌∙◌, ap, subst, arith}
use Rattle.std.specs.Prelude.{IsSome}
use Rattle.std.proofs.Math.ListN.{set}
use Rattle.ptk_words.specs.Pools.{without, is_in}
use Rattle.ptk_words.specs.Parts.{part_of}
use Rattle.ptk_words_model.specs.Schedule.{woken_with}
use Rattle.ptk_threads.specs.Table.{ThreadTable, thread_in, with_queues}
use Rattle.ptk_threads.specs.Queues.{with_out}
use Rattle.ptk_threads.specs.declared.link.QueueName.TheVariants.{MutexWaiters}
use Rattle.ptk_threads.specs.Links.{links_of}
use Rattle.ptk_ready.specs.Partitions.{lines_by}
use Rattle.ptk_ready.specs.Laws.{lines_same}
use Rattle.ptk_roster.specs.Rosters.{Rostered}
use Rattle.ptk_roster.proofs.Seen.{ready_same}
use Rattle.ptk_roster.proofs.Rosters.{last_used}
use Rattle.ptk_roster.proofs.Pools.{line_parts}
use Rattle.ptk_roster.proofs.Waits.{has_queues, mutex_whole, left_seen, waiter_in}
use Rattle.ptk_roster.proofs.Passed.{away, roused_whole, roused_seen}
use Rattle.ptk_roster.proofs.roster.Roster.rouse_from_mutex.Goals as goal

pub rouse-requires : goal.rouse-requires
rouse-requires c =
    let own : IsSome (thread_in c.self.inside.threads c.args.p c.args.k) = subst (λ (n : Rostered). IsSome (thread_in n.table c.args.p c.args.k)) (sym c.self.view_is) c.requires.in_use in
    let out : is_in c.args.k (part_of (lines_by c.self.inside.line c.self.inside.threads.queues) c.args.p) ≡ false = subst (λ (n : Rostered). is_in c.args.k (part_of n.lines c.args.p) ≡ false) (sym c.self.view_is) c.requires.fresh in
    let far : 32 ≤ c.args.m + 31 = omega (arith, c.number-number.ensures.value, c.number-number.ensures.positive) in
    let low : c.args.m + 31 < 128 = omega (arith, c.number-number.ensures.value, c.number-number.ensures.in_range) in
    let free = away (links_of c.linked-part.result.slots.now) c.linked-part.result.ends.now c.self.inside.threads c.args.p (c.args.m + 31) c.args.k c.linked-part.ensures.sound c.linked-part.ensures.lists (has_queues 4611686018427387904 c.self.inside.line c.self.inside.threads c.self.inside.mutexes c.self.inside.conditions c.args.self.now c.args.p c.self.view_is c.self.invariant c.requires.partition c.parts-parts.ensures.queues) low (waiter_in c.self.inside.threads c.self.inside.mutexes c.self.inside.conditions c.args.self.now.mutexes c.args.p c.args.m c.args.k c.self.invariant.pools (omega (arith, c.number-number.ensures.value, c.number-number.ensures.positive)) (omega (arith, c.number-number.ensures.value, c.number-number.ensures.in_range)) (ap (λ (n : Rostered). n.mutexes) c.self.view_is) c.requires.waits) in
    let levels = c.self.invariant.lined.levels c.args.p in
    (lit< tt, (line_parts 4611686018427387904 c.self.inside.line c.self.inside.threads c.self.inside.mutexes c.self.inside.conditions c.args.self.now c.args.p c.self.view_is c.self.invariant c.requires.partition, (far, (own, (out, (c.self.invariant.lined.filed, (free, ((levels.least c.args.k own, levels.greatest c.args.k), c.requires.few))))))))

pub invariant_of-self : goal.invariant_of-self
invariant_of-self c =
    let left : ThreadTable = with_queues c.args.p (with_out (MutexWaiters c.args.m) c.args.k) c.self.inside.threads in
    let own : IsSome (thread_in c.self.inside.threads c.args.p c.args.k) = subst (λ (n : Rostered). IsSome (thread_in n.table c.args.p c.args.k)) (sym c.self.view_is) c.requires.in_use in
    roused_whole 4611686018427387904 c.self.inside.line c.rouse.new.self left c.rouse.new.threads c.self.inside.mutexes c.self.inside.conditions c.args.p c.args.k (woken_with c.args.values.now) (part_of (lines_by c.self.inside.line left.queues) c.args.p ++ c.args.k ∷ [])
    (mutex_whole 4611686018427387904 c.self.inside.line c.self.inside.threads left c.self.inside.mutexes c.self.inside.conditions c.args.p c.args.m (without c.args.k (part_of (part_of c.self.inside.threads.queues c.args.p) (c.args.m + 31))) (omega (arith, c.number-number.ensures.value, c.number-number.ensures.positive)) (omega (arith, c.number-number.ensures.value, c.number-number.ensures.in_range))
    (λ none. ap (without c.args.k) (c.self.invariant.pools.free_mutexes c.args.p c.args.m (omega (arith, c.number-number.ensures.value, c.number-number.ensures.positive)) (omega (arith, c.number-number.ensures.value, c.number-number.ensures.in_range)) none)) refl c.self.invariant)
    c.rouse.ensures.sound c.rouse.ensures.threads c.rouse.ensures.stored c.rouse.ensures.waiters
    (c.rouse.ensures.line ∙ ap (λ lines. set lines c.args.p (part_of lines c.args.p ++ c.args.k ∷ [])) (sym (lines_same c.self.inside.line left.queues c.self.inside.threads.queues (ready_same c.self.inside.threads.queues c.args.p (c.args.m + 31) (without c.args.k (part_of (part_of c.self.inside.threads.queues c.args.p) (c.args.m + 31))) (omega (arith, c.number-number.ensures.value, c.number-number.ensures.positive))))))
    (last_used left c.args.p c.args.k (part_of (lines_by c.self.inside.line left.queues) c.args.p) own (λ j inside. c.self.invariant.lined.listed c.args.p j
    (subst (λ lines. is_in j (part_of lines c.args.p) ≡ true) (lines_same c.self.inside.line left.queues c.self.inside.threads.queues (ready_same c.self.inside.threads.queues c.args.p (c.args.m + 31) (without c.args.k (part_of (part_of c.self.inside.threads.queues c.args.p) (c.args.m + 31))) (omega (arith, c.number-number.ensures.value, c.number-number.ensures.positive)))) inside)))
    (line_parts 4611686018427387904 c.self.inside.line c.self.inside.threads c.self.inside.mutexes c.self.inside.conditions c.args.self.now c.args.p c.self.view_is c.self.invariant c.requires.partition).1

pub returns : goal.returns
returns c =
    let left : ThreadTable = with_queues c.args.p (with_out (MutexWaiters c.args.m) c.args.k) c.self.inside.threads in
    roused_seen c.self.inside.line c.rouse.new.self left c.rouse.new.threads c.self.inside.mutexes c.self.inside.conditions _ c.args.p c.args.k (woken_with c.args.values.now) (λ ks. ks ++ c.args.k ∷ [])
    (left_seen 4611686018427387904 c.self.inside.line c.self.inside.threads left c.self.inside.mutexes c.self.inside.conditions c.args.self.now c.args.p c.args.m c.args.k (has_queues 4611686018427387904 c.self.inside.line c.self.inside.threads c.self.inside.mutexes c.self.inside.conditions c.args.self.now c.args.p c.self.view_is c.self.invariant c.requires.partition c.parts-parts.ensures.queues) (omega (arith, c.number-number.ensures.value, c.number-number.ensures.positive)) (omega (arith, c.number-number.ensures.value, c.number-number.ensures.in_range)) c.self.view_is refl)
    c.rouse.ensures.threads c.rouse.ensures.stored c.rouse.ensures.waiters
    (c.rouse.ensures.line ∙ ap (λ lines. set lines c.args.p (part_of lines c.args.p ++ c.args.k ∷ [])) (sym (lines_same c.self.inside.line left.queues c.self.inside.threads.queues (ready_same c.self.inside.threads.queues c.args.p (c.args.m + 31) (without c.args.k (part_of (part_of c.self.inside.threads.queues c.args.p) (c.args.m + 31))) (omega (arith, c.number-number.ensures.value, c.number-number.ensures.positive))))))
