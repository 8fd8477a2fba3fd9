-- A waiter leaves its condition variable and re-locks the mutex that it named: signal, broadcast, and what a deadline or a cancellation does.
use Rattle.std.proofs.Common.{◌≡◌, ℕ, zero, suc, true, false, List, length, refl, sym, ◌∙◌, ap, subst, inl, inr}
use Rattle.std.specs.Prelude.{◌≢◌, Option, Some, None, option_to_list}
use Rattle.std.specs.Fn.{iterate}
use Rattle.std.proofs.lemmas.Bool.{cases_eq}
use Rattle.ptk_words.specs.Pools.{pool_get, pool_set, pool_changed, without, first_of_greatest}
use Rattle.ptk_words.specs.declared.threads.Thread.{Thread}
use Rattle.ptk_words.specs.declared.threads.Wait.{Wait}
use Rattle.ptk_words.specs.declared.threads.Wait.TheVariants.{ConditionWait, RelockWait}
use Rattle.ptk_words.proofs.Pools.{changed_own, changed_other}
use Rattle.ptk_words.proofs.Lists.{first_in}
use Rattle.ptk_words_model.specs.declared.LockMove.{LockMove}
use Rattle.ptk_words_model.specs.declared.LockMove.TheVariants.{Takes, Recovers, Counts, Waits, Refuses}
use Rattle.ptk_words_model.specs.State.{Condition, Locks, Syncs}
use Rattle.ptk_words_model.specs.Priority.{awaited, thread_at, effective_priority}
use Rattle.ptk_words.specs.Threads.{mutex_of_wait, condition_of_wait}
use Rattle.ptk_words_model.specs.Schedule.{at_tail_with, woken_with}
use Rattle.ptk_words_model.specs.Mutex.{mutex_at, wait_of, move_reply, relock_move, after_wait, after_take, after_count, after_relock_move, after_relock}
use Rattle.ptk_words_model.specs.Condition.{condition_waiters, mutex_of_condition_wait, after_unblock_for, after_unblock, after_signal_to, after_signal, after_broadcast, waiters_on}
use Rattle.ptk_words_model.specs.Unwinding.{is_alive}
use Rattle.ptk_words_sync_invariant.specs.Locks.{is_ready}
use Rattle.ptk_words_sync_invariant.specs.Conditions.{AreConditions, AreSyncs}
use Rattle.ptk_words_sync_invariant.proofs.Lined.{not_ready_out, not_ready_stopped, lined_others}
use Rattle.ptk_words_sync_invariant.proofs.Listed.{IsElsewhere, elsewhere_mutex, listed_elsewhere}
use Rattle.ptk_words_sync_invariant.proofs.Threads.{IsWaking, waking_woken, waking_alive, waking_used, changed_same, used_changed, awaits_by, idle_awaits, in_wait}
use Rattle.ptk_words_sync_invariant.proofs.Exclusion.{exclusion_same, joined_by}
use Rattle.ptk_words_sync_invariant.proofs.Wakings.{waits_not_ready, waits_alive, waking_idle, lined_woken}
use Rattle.ptk_words_sync_invariant.proofs.Rooms.{roomy_joined}
use Rattle.ptk_words_sync_invariant.proofs.Handovers.{held_take}
use Rattle.ptk_words_sync_invariant.proofs.Blocks.{blocks_waits, wait_change, used_blocked, exclusion_joined}
use Rattle.ptk_words_sync_invariant.proofs.LockMoves.{MayMake, may_relock}
use Rattle.ptk_words_sync_invariant.proofs.Moves.{held_count}
use Rattle.ptk_words_sync_invariant.proofs.Conditions.{waits_on, IsConditionWait, condition_wait, conditions_mutex, conditions_counted}
use Rattle.ptk_words_sync_invariant.proofs.Gathered.{conditions_left}
use Rattle.ptk_words_sync_invariant.proofs.Timed.{listed_woken, timed_rest, syncs_with, held_syncs, syncs_held}
use Rattle.ptk_words_sync_invariant.proofs.ConditionWaits.{elsewhere_condition}

-- ---- a thread that waits for no mutex is woken

-- its wait is one that neither the console nor a thread lists
pub syncs_woken : (interval t : ℕ) (f : Thread → Thread) (wait : Wait) (running : Option ℕ) (waiters : List ℕ) (conditions : List (Option Condition)) (syncs : Syncs) → IsWaking f → wait_of (thread_at syncs.locks t) ≡ Some wait
    → mutex_of_wait (Some wait) ≡ None → IsElsewhere (Some wait) → AreConditions (pool_changed t f syncs.threads) syncs.mutexes conditions → AreSyncs interval running waiters syncs
    → AreSyncs interval running waiters (syncs_with (at_tail_with f t syncs.locks) conditions)
syncs_woken interval t f wait running waiters conditions syncs waking waits for_none other kept are =
    let after : List (Option Thread) = pool_changed t f syncs.threads in
    let alive : is_alive (thread_at syncs.locks t) ≡ true = waits_alive wait (thread_at syncs.locks t) (are.waiting.ended_wait t) waits in
    let idle : awaited (thread_at syncs.locks t) ≡ None = awaits_by (thread_at syncs.locks t) ∙ ap mutex_of_wait waits ∙ for_none in
    let now : awaited (pool_get after t) ≡ None = idle_awaits (pool_get after t) (waking_idle t f syncs.threads waking) in
    record {
      lined = lined_woken t f syncs.threads syncs.line running waking alive (waits_not_ready wait (thread_at syncs.locks t) waits) are.lined;
      waiting = listed_woken t f syncs.threads waiters waking (rw waits other) are.waiting;
      exclusion = exclusion_same syncs.threads after syncs.mutexes
          (λ u. elim (cases_eq u t) [ inl same ↦ (rw same (now ∙ sym idle)) | inr ne ↦ ap awaited (changed_other t u f syncs.threads ne) ])
          (changed_same is_alive t f syncs.threads (waking_alive f (pool_get syncs.threads t) waking)) are.exclusion;
      conditions = kept;
      used = used_changed interval t f syncs.threads (rw (waking_used f (pool_get syncs.threads t) waking) (are.used 0)) are.used;
    }

-- ---- a waiter leaves its condition variable

-- the condition variables without the waiter (pthread_cond_signal)
abbrev pub without_waiter_of : ℕ → ℕ → List (Option Condition) → List (Option Condition)
without_waiter_of t c conditions = pool_set conditions c (Some (record { waiters = without t (waiters_on (pool_get conditions c)) }))

-- a thread that waits on the condition variable, and names the mutex (own)
abbrev pub IsWaiterOn : ℕ → ℕ → ℕ → Option ℕ → Locks → Type 0
IsWaiterOn t c m deadline locks = wait_of (thread_at locks t) ≡ Some (ConditionWait c m deadline)

-- it is woken
unblocked : (interval t c m : ℕ) (deadline : Option ℕ) (f : Thread → Thread) (running : Option ℕ) (waiters : List ℕ) (syncs : Syncs) → IsWaking f → IsWaiterOn t c m deadline syncs.locks → AreSyncs interval running waiters syncs
    → AreSyncs interval running waiters (syncs_with (at_tail_with f t syncs.locks) (without_waiter_of t c syncs.conditions))
unblocked interval t c m deadline f running waiters syncs waking waits are =
    syncs_woken interval t f (ConditionWait c m deadline) running waiters (without_waiter_of t c syncs.conditions) syncs waking waits refl (elsewhere_condition c m deadline)
    (conditions_left t c syncs.threads (pool_changed t f syncs.threads) syncs.mutexes syncs.conditions (λ u ne. ap wait_of (changed_other t u f syncs.threads ne)) (ap condition_of_wait waits)
    (ap condition_of_wait (waking_idle t f syncs.threads waking)) are.conditions) are

-- a thread that waits for nothing makes a move other than a wait on the mutex
made : (interval t m : ℕ) (running : Option ℕ) (waiters : List ℕ) (syncs : Syncs) → is_alive (thread_at syncs.locks t) ≡ true → AreSyncs interval running waiters syncs → AreSyncs interval running waiters (record syncs { locks = after_take t m syncs.locks })
made interval t m running waiters syncs alive are =
    syncs_held interval running waiters (after_take t m syncs.locks) syncs.conditions (held_take interval t m running (timed_rest waiters syncs.conditions) syncs.locks alive (held_syncs interval running waiters syncs are))

counted : (interval t m : ℕ) (running : Option ℕ) (waiters : List ℕ) (syncs : Syncs) → MayMake Counts t (mutex_at syncs.locks m) → waits_on (thread_at syncs.locks t) ≡ None → AreSyncs interval running waiters syncs
    → AreSyncs interval running waiters (record syncs { locks = after_count m syncs.locks })
counted interval t m running waiters syncs may off are =
    syncs_held interval running waiters (after_count m syncs.locks) syncs.conditions
    (held_count interval m running (timed_rest waiters syncs.conditions) syncs.locks may.0 (are.waiting, conditions_counted t m syncs.threads syncs.mutexes syncs.conditions may.1 off are.conditions) (held_syncs interval running waiters syncs are))

woken_alive : (t : ℕ) (f : Thread → Thread) (locks : Locks) → IsWaking f → is_alive (thread_at locks t) ≡ true → is_alive (thread_at (at_tail_with f t locks) t) ≡ true
woken_alive t f locks waking alive = ap is_alive (changed_own t f locks.threads) ∙ waking_alive f (thread_at locks t) waking ∙ alive

-- it goes on to wait for the mutex, which is locked
queued : (interval t c m : ℕ) (deadline reply : Option ℕ) (running : Option ℕ) (waiters : List ℕ) (syncs : Syncs) → IsWaiterOn t c m deadline syncs.locks → MayMake Waits t (mutex_at syncs.locks m) → AreSyncs interval running waiters syncs
    → AreSyncs interval running waiters (syncs_with (after_wait t m (RelockWait m reply) syncs.locks) (without_waiter_of t c syncs.conditions))
queued interval t c m deadline reply running waiters syncs waits locked are =
    let after : List (Option Thread) = pool_changed t (in_wait (RelockWait m reply)) syncs.threads in
    let others : (u : ℕ) → u ≢ t → pool_get after u ≡ pool_get syncs.threads u = λ u ne. changed_other t u (in_wait (RelockWait m reply)) syncs.threads ne in
    let alive : is_alive (thread_at syncs.locks t) ≡ true = waits_alive (ConditionWait c m deadline) (thread_at syncs.locks t) (are.waiting.ended_wait t) waits in
    let idle : is_ready (thread_at syncs.locks t) ≡ false = waits_not_ready (ConditionWait c m deadline) (thread_at syncs.locks t) waits in
    let now : wait_of (pool_get after t) ≡ Some (RelockWait m reply) = blocks_waits t (RelockWait m reply) syncs.threads alive in
    let left : AreConditions after syncs.mutexes (without_waiter_of t c syncs.conditions) =
    conditions_left t c syncs.threads after syncs.mutexes syncs.conditions (λ u ne. ap wait_of (others u ne)) (ap condition_of_wait waits) (ap condition_of_wait now) are.conditions in
    record {
      lined = lined_others t syncs.threads after syncs.line running others (not_ready_out syncs.threads syncs.line running t are.lined idle) (not_ready_stopped syncs.threads syncs.line running t are.lined idle) are.lined;
      waiting = listed_elsewhere t syncs.threads after waiters (wait_change t (RelockWait m reply) syncs.threads alive are.waiting.ended_wait)
          (rw waits (elsewhere_condition c m deadline)) (rw now (elsewhere_mutex m (Some (RelockWait m reply)) refl)) are.waiting;
      exclusion = exclusion_joined t m (RelockWait m reply) syncs.threads syncs.mutexes alive (awaits_by (thread_at syncs.locks t) ∙ ap mutex_of_wait waits) refl locked are.exclusion;
      conditions = conditions_mutex m (joined_by t) after syncs.mutexes (without_waiter_of t c syncs.conditions) (roomy_joined t) left;
      used = used_blocked interval t (RelockWait m reply) syncs.threads are.used;
    }

relock_move_of : (interval : ℕ) (move : LockMove) (t c m : ℕ) (deadline reply : Option ℕ) (running : Option ℕ) (waiters : List ℕ) (syncs : Syncs) → IsWaiterOn t c m deadline syncs.locks → MayMake move t (mutex_at syncs.locks m)
    → AreSyncs interval running waiters syncs → AreSyncs interval running waiters (syncs_with (after_relock_move move t m reply syncs.locks) (without_waiter_of t c syncs.conditions))
relock_move_of interval Takes t c m deadline reply running waiters syncs waits may are =
    made interval t m running waiters (syncs_with (at_tail_with (woken_with (option_to_list (move_reply Takes reply))) t syncs.locks) (without_waiter_of t c syncs.conditions))
    (woken_alive t (woken_with (option_to_list (move_reply Takes reply))) syncs.locks (waking_woken (option_to_list (move_reply Takes reply))) (waits_alive (ConditionWait c m deadline) (thread_at syncs.locks t) (are.waiting.ended_wait t) waits))
    (unblocked interval t c m deadline (woken_with (option_to_list (move_reply Takes reply))) running waiters syncs (waking_woken (option_to_list (move_reply Takes reply))) waits are)
relock_move_of interval Recovers t c m deadline reply running waiters syncs waits may are =
    made interval t m running waiters (syncs_with (at_tail_with (woken_with (option_to_list (move_reply Recovers reply))) t syncs.locks) (without_waiter_of t c syncs.conditions))
    (woken_alive t (woken_with (option_to_list (move_reply Recovers reply))) syncs.locks (waking_woken (option_to_list (move_reply Recovers reply))) (waits_alive (ConditionWait c m deadline) (thread_at syncs.locks t) (are.waiting.ended_wait t) waits))
    (unblocked interval t c m deadline (woken_with (option_to_list (move_reply Recovers reply))) running waiters syncs (waking_woken (option_to_list (move_reply Recovers reply))) waits are)
relock_move_of interval Counts t c m deadline reply running waiters syncs waits may are =
    counted interval t m running waiters (syncs_with (at_tail_with (woken_with (option_to_list (move_reply Counts reply))) t syncs.locks) (without_waiter_of t c syncs.conditions)) may
    (ap condition_of_wait (waking_idle t (woken_with (option_to_list (move_reply Counts reply))) syncs.threads (waking_woken (option_to_list (move_reply Counts reply)))))
    (unblocked interval t c m deadline (woken_with (option_to_list (move_reply Counts reply))) running waiters syncs (waking_woken (option_to_list (move_reply Counts reply))) waits are)
relock_move_of interval Waits t c m deadline reply running waiters syncs waits may are = queued interval t c m deadline reply running waiters syncs waits may are
relock_move_of interval (Refuses e) t c m deadline reply running waiters syncs waits may are =
    unblocked interval t c m deadline (woken_with (option_to_list (move_reply (Refuses e) reply))) running waiters syncs (waking_woken (option_to_list (move_reply (Refuses e) reply))) waits are

-- a waiter leaves its condition variable and re-locks the mutex that it named
pub syncs_relock : (interval t c m : ℕ) (deadline reply : Option ℕ) (running : Option ℕ) (waiters : List ℕ) (syncs : Syncs) → IsWaiterOn t c m deadline syncs.locks → AreSyncs interval running waiters syncs
    → AreSyncs interval running waiters (syncs_with (after_relock t m reply syncs.locks) (without_waiter_of t c syncs.conditions))
syncs_relock interval t c m deadline reply running waiters syncs waits are =
    relock_move_of interval (relock_move t (mutex_at syncs.locks m)) t c m deadline reply running waiters syncs waits
    (may_relock t (mutex_at syncs.locks m) (are.conditions.named_used t m (ap mutex_of_condition_wait waits)) (are.conditions.room t m (ap mutex_of_condition_wait waits))) are

-- ---- unblock, signal and broadcast

-- a waiter of the condition variable is unblocked
pub syncs_unblock : (interval t c : ℕ) (reply : Option ℕ) (running : Option ℕ) (waiters : List ℕ) (syncs : Syncs) → waits_on (thread_at syncs.locks t) ≡ Some c → AreSyncs interval running waiters syncs
    → AreSyncs interval running waiters (after_unblock t c reply syncs)
syncs_unblock interval t c reply running waiters syncs on are =
    let is : IsConditionWait c (wait_of (thread_at syncs.locks t)) = condition_wait c (wait_of (thread_at syncs.locks t)) on in
    subst (λ (o : Option ℕ). AreSyncs interval running waiters (after_unblock_for t c reply o syncs)) (sym (ap mutex_of_condition_wait is.waits))
    (syncs_relock interval t c is.mutex is.deadline reply running waiters syncs is.waits are)

pub syncs_signal_to : (interval c : ℕ) (next : Option ℕ) (running : Option ℕ) (waiters : List ℕ) (syncs : Syncs) → first_of_greatest (effective_priority syncs.locks) (condition_waiters syncs c) ≡ next → AreSyncs interval running waiters syncs
    → AreSyncs interval running waiters (after_signal_to next c syncs)
syncs_signal_to interval c None running waiters syncs e are = are
syncs_signal_to interval c (Some t) running waiters syncs e are =
    syncs_unblock interval t c (Some 0) running waiters syncs (are.conditions.waiters_wait c t (first_in (effective_priority syncs.locks) t (condition_waiters syncs c) e)) are

-- one waiter is unblocked (pthread_cond_signal)
pub syncs_signal : (interval c : ℕ) (running : Option ℕ) (waiters : List ℕ) (syncs : Syncs) → AreSyncs interval running waiters syncs → AreSyncs interval running waiters (after_signal c syncs)
syncs_signal interval c running waiters syncs are = syncs_signal_to interval c (first_of_greatest (effective_priority syncs.locks) (condition_waiters syncs c)) running waiters syncs refl are

syncs_signals : (interval c n : ℕ) (running : Option ℕ) (waiters : List ℕ) (syncs : Syncs) → AreSyncs interval running waiters syncs → AreSyncs interval running waiters (iterate (after_signal c) n syncs)
syncs_signals interval c zero running waiters syncs are = are
syncs_signals interval c (suc n) running waiters syncs are = syncs_signals interval c n running waiters (after_signal c syncs) (syncs_signal interval c running waiters syncs are)

-- every waiter is unblocked (pthread_cond_broadcast)
pub syncs_broadcast : (interval c : ℕ) (running : Option ℕ) (waiters : List ℕ) (syncs : Syncs) → AreSyncs interval running waiters syncs → AreSyncs interval running waiters (after_broadcast c syncs)
syncs_broadcast interval c running waiters syncs are = syncs_signals interval c (length (condition_waiters syncs c)) running waiters syncs are
