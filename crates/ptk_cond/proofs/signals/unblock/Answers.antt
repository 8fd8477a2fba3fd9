use Rattle.std.proofs.Common.{◌≡◌, ◌-◌, ◌^◌, true, refl, sym, ◌∙◌, ap, subst}
use Rattle.std.specs.Prelude.{is_some, if◌then◌else◌}
use Rattle.ptk_words.specs.Pools.{pool_get, without}
use Rattle.ptk_words.specs.Parts.{part_of}
use Rattle.ptk_words_model.specs.declared.LockMove.{LockMove}
use Rattle.ptk_words_model.specs.declared.LockMove.TheVariants.{Waits}
use Rattle.ptk_words_model.specs.State.{Locks}
use Rattle.ptk_words_model.specs.Mutex.{is_waiting, relock_move, wait_of}
use Rattle.ptk_words_model.specs.Condition.{waiters_on}
use Rattle.ptk_words_sync_invariant.specs.Conditions.{HasRoom}
use Rattle.ptk_mutex.specs.SyncRosters.{Rostered}
use Rattle.ptk_mutex.specs.Tables.{MayWait}
use Rattle.ptk_mutex.proofs.Sound.{of_part}
use Rattle.ptk_cond.proofs.Steps.{with_waiters_on, ready_waiters, same_waiters, waiter_may, waiter_room, is_waiting-waits, unblocked_synced, unblocked_sound}
use Rattle.ptk_threads.specs.Table.{thread_in}
use Rattle.ptk_mutex.proofs.WokenMoves.{woken_from, woken_relock}
use Rattle.ptk_cond.proofs.Woken.{waiter_waits}
use Rattle.ptk_cond.proofs.signals.unblock.Goals as goal

pub pass_on-requires-clause-waits : goal.pass_on-requires-clause-waits
pass_on-requires-clause-waits c = sym c.relock_move.ensures ∙ is_waiting-waits c.relock_move.result (sym c.is_waiting.ensures ∙ c.if-is_waiting.true)

pub relock-requires-clause-ready : goal.relock-requires-clause-ready
relock-requires-clause-ready c =
    ready_waiters c.args.p c.args.c (without c.args.t (waiters_on (pool_get (part_of c.args.roster.now.conditions c.args.p) c.args.c))) c.args.roster.now c.leave_condition.new.self c.leave_condition.ensures.roster c.requires.ready.ready

pub relock-requires-clause-caller : goal.relock-requires-clause-caller
relock-requires-clause-caller c =
    let a : Rostered = c.args.roster.now in
    subst (λ (l : Locks). MayWait l c.args.t) (sym (same_waiters c.args.p c.args.c (without c.args.t (waiters_on (pool_get (part_of a.conditions c.args.p) c.args.c))) a c.leave_condition.new.self c.leave_condition.ensures.roster))
    (waiter_may c.args.p c.args.t c.args.c a.table a.lines a.mutexes a.conditions c.requires.ready c.requires.waiter)

pub relock-requires-clause-free : goal.relock-requires-clause-free
relock-requires-clause-free c = c.leave_condition.ensures.apart c.requires.waiter

pub relock-requires-clause-countable : goal.relock-requires-clause-countable
relock-requires-clause-countable c =
    let a : Rostered = c.args.roster.now in
    subst (λ (l : Locks). HasRoom c.args.t (pool_get l.mutexes c.in-Some.m)) (sym (same_waiters c.args.p c.args.c (without c.args.t (waiters_on (pool_get (part_of a.conditions c.args.p) c.args.c))) a c.leave_condition.new.self c.leave_condition.ensures.roster))
    (waiter_room c.args.p c.args.t c.args.c c.in-Some.m a.table a.lines a.mutexes a.conditions c.requires.ready c.requires.waiter (sym c.in-Some.is ∙ c.requires.named))

pub returns-then-is_waiting-clause-ready : goal.returns-then-is_waiting-clause-ready
returns-then-is_waiting-clause-ready c =
    let a : Rostered = c.args.roster.now in
    unblocked_synced c.args.p c.args.t c.args.c c.in-Some.m c.args.reply c.args.named a (with_waiters_on c.args.p c.args.c (without c.args.t (waiters_on (pool_get (part_of a.conditions c.args.p) c.args.c))) a) c.pass_on.new.roster
    c.requires.ready c.requires.waiter c.in-Some.is refl c.pass_on.ensures.roster c.pass_on.ensures.ready

pub returns-then-is_waiting-clause-sound : goal.returns-then-is_waiting-clause-sound
returns-then-is_waiting-clause-sound c =
    let a : Rostered = c.args.roster.now in
    unblocked_sound c.args.p c.args.t c.args.c c.in-Some.m c.args.reply c.args.named a (with_waiters_on c.args.p c.args.c (without c.args.t (waiters_on (pool_get (part_of a.conditions c.args.p) c.args.c))) a) c.pass_on.new.roster
    c.requires.ready c.requires.waiter c.in-Some.is refl c.pass_on.ensures.roster c.pass_on.ensures.ready

pub returns-else-is_waiting-clause-ready : goal.returns-else-is_waiting-clause-ready
returns-else-is_waiting-clause-ready c =
    unblocked_synced c.args.p c.args.t c.args.c c.in-Some.m c.args.reply c.args.named c.args.roster.now c.leave_condition.new.self c.relock.new.roster
    c.requires.ready c.requires.waiter c.in-Some.is c.leave_condition.ensures.roster c.relock.ensures.roster c.relock.ensures.ready

pub returns-else-is_waiting-clause-sound : goal.returns-else-is_waiting-clause-sound
returns-else-is_waiting-clause-sound c =
    unblocked_sound c.args.p c.args.t c.args.c c.in-Some.m c.args.reply c.args.named c.args.roster.now c.leave_condition.new.self c.relock.new.roster
    c.requires.ready c.requires.waiter c.in-Some.is c.leave_condition.ensures.roster c.relock.ensures.roster c.relock.ensures.ready

pub returns-then-is_waiting-clause-woken : goal.returns-then-is_waiting-clause-woken
returns-then-is_waiting-clause-woken c =
    let a : Rostered = c.args.roster.now in
    let waits : relock_move c.args.t (pool_get (part_of a.mutexes c.args.p) c.in-Some.m) ≡ Waits = sym c.relock_move.ensures ∙ is_waiting-waits c.relock_move.result (sym c.is_waiting.ensures ∙ c.if-is_waiting.true) in
    let waiting : is_some (wait_of (thread_in a.table c.args.p c.args.t)) ≡ true = waiter_waits c.args.t c.args.c (of_part c.args.p a) c.requires.ready.waiting c.requires.waiter in
    ap (λ (made : LockMove). if is_waiting made then 0 else 2 ^ (c.args.t - 1)) (sym waits)
    ∙ woken_relock (relock_move c.args.t (pool_get (part_of a.mutexes c.args.p) c.in-Some.m)) c.args.p c.args.t c.in-Some.m c.args.reply (with_waiters_on c.args.p c.args.c (without c.args.t (waiters_on (pool_get (part_of a.conditions c.args.p) c.args.c))) a) c.pass_on.new.roster
    c.requires.ready.ready.part.of_threads waiting c.pass_on.ensures.roster

pub returns-else-is_waiting-clause-woken : goal.returns-else-is_waiting-clause-woken
returns-else-is_waiting-clause-woken c =
    let a : Rostered = c.args.roster.now in
    let waiting : is_some (wait_of (thread_in a.table c.args.p c.args.t)) ≡ true = waiter_waits c.args.t c.args.c (of_part c.args.p a) c.requires.ready.waiting c.requires.waiter in
    c.relock.ensures.woken (subst (λ (r : Rostered). is_some (wait_of (thread_in r.table c.args.p c.args.t)) ≡ true) (sym c.leave_condition.ensures.roster) waiting)
    ∙ woken_from c.args.p a c.leave_condition.new.self c.relock.new.roster (ap (λ (r : Rostered). r.table.threads) c.leave_condition.ensures.roster)
