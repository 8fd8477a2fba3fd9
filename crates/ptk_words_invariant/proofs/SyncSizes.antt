-- No move of a mutex or of a condition variable changes how many numbers of threads, mutexes and condition variables there are.
use Rattle.std.proofs.Common.{ℕ, zero, suc, length, refl, ◌∙◌}
use Rattle.std.specs.Prelude.{Option, Some, None, option_to_list}
use Rattle.std.specs.Fn.{iterate}
use Rattle.ptk_words.specs.Pools.{first_of_greatest}
use Rattle.ptk_words.specs.declared.threads.Wait.{Wait}
use Rattle.ptk_words.specs.declared.threads.Wait.TheVariants.{RelockWait}
use Rattle.ptk_words.proofs.Pools.{length-pool_set, length-changed}
use Rattle.ptk_words_model.specs.declared.LockMove.{LockMove}
use Rattle.ptk_words_model.specs.declared.LockMove.TheVariants.{Takes, Recovers, Counts, Waits, Refuses}
use Rattle.ptk_words_model.specs.State.{Locks, Syncs}
use Rattle.ptk_words_model.specs.Priority.{thread_at, effective_priority}
use Rattle.ptk_words_model.specs.Schedule.{after_wake}
use Rattle.ptk_words_model.specs.Mutex.{mutex_at, wait_of, relock_move, after_move, after_relock_move, move_reply, after_relock, after_unlock, after_owner_end}
use Rattle.ptk_words_model.specs.Condition.{mutex_of_condition_wait, condition_waiters, after_condition_wait, after_unblock_for, after_unblock, after_signal_to, after_signal, after_broadcast}
use Rattle.ptk_words_sync_invariant.proofs.Sizes.{length-move_threads, length-move_mutexes, length-unlock_threads, length-unlock_mutexes, length-owner_end_threads, length-owner_end_mutexes}
use Rattle.ptk_words_invariant.proofs.Synced.{AreSized}

sized_then : (a b c : Syncs) → AreSized a b → AreSized b c → AreSized a c
sized_then a b c first second = record { threads = second.threads ∙ first.threads; mutexes = second.mutexes ∙ first.mutexes; conditions = second.conditions ∙ first.conditions }

pub sized_same : (syncs : Syncs) → AreSized syncs syncs
sized_same syncs = record { threads = refl; mutexes = refl; conditions = refl }

-- ---- mutexes

-- the thread makes a move on a mutex
pub sized_move : (move : LockMove) (t m : ℕ) (wait : Wait) (syncs : Syncs) → AreSized syncs (record syncs { locks = after_move move t m wait syncs.locks })
sized_move move t m wait syncs = record { threads = length-move_threads move t m wait syncs.locks; mutexes = length-move_mutexes move t m wait syncs.locks; conditions = refl }

pub sized_unlock : (m : ℕ) (syncs : Syncs) → AreSized syncs (record syncs { locks = after_unlock m syncs.locks })
sized_unlock m syncs = record { threads = length-unlock_threads m syncs.locks; mutexes = length-unlock_mutexes m syncs.locks; conditions = refl }

pub sized_owner_end : (t : ℕ) (syncs : Syncs) → AreSized syncs (record syncs { locks = after_owner_end t syncs.locks })
sized_owner_end t syncs = record { threads = length-owner_end_threads t syncs.locks; mutexes = length-owner_end_mutexes t syncs.locks; conditions = refl }

-- ---- condition variables

-- the thread has made the move and is woken
sized_relock_end : (move : LockMove) (t m : ℕ) (reply : Option ℕ) (syncs : Syncs) → AreSized syncs (record syncs { locks = after_wake t (option_to_list (move_reply move reply)) (after_move move t m (RelockWait m reply) syncs.locks) })
sized_relock_end move t m reply syncs =
    let moved : Locks = after_move move t m (RelockWait m reply) syncs.locks in
    record { threads = length-changed t _ moved.threads ∙ length-move_threads move t m (RelockWait m reply) syncs.locks; mutexes = length-move_mutexes move t m (RelockWait m reply) syncs.locks; conditions = refl }

sized_relock : (move : LockMove) (t m : ℕ) (reply : Option ℕ) (syncs : Syncs) → AreSized syncs (record syncs { locks = after_relock_move move t m reply syncs.locks })
sized_relock Takes t m reply syncs = sized_relock_end Takes t m reply syncs
sized_relock Recovers t m reply syncs = sized_relock_end Recovers t m reply syncs
sized_relock Counts t m reply syncs = sized_relock_end Counts t m reply syncs
sized_relock Waits t m reply syncs = sized_move Waits t m (RelockWait m reply) syncs
sized_relock (Refuses e) t m reply syncs = sized_relock_end (Refuses e) t m reply syncs

sized_unblock_for : (t c : ℕ) (reply o : Option ℕ) (syncs : Syncs) → AreSized syncs (after_unblock_for t c reply o syncs)
sized_unblock_for t c reply None syncs = sized_same syncs
sized_unblock_for t c reply (Some m) syncs =
    let relocked : AreSized syncs (record syncs { locks = after_relock t m reply syncs.locks }) = sized_relock (relock_move t (mutex_at syncs.locks m)) t m reply syncs in
    record { threads = relocked.threads; mutexes = relocked.mutexes; conditions = length-pool_set syncs.conditions c _ }

-- a waiter is unblocked
pub sized_unblock : (t c : ℕ) (reply : Option ℕ) (syncs : Syncs) → AreSized syncs (after_unblock t c reply syncs)
sized_unblock t c reply syncs = sized_unblock_for t c reply (mutex_of_condition_wait (wait_of (thread_at syncs.locks t))) syncs

sized_signal_to : (next : Option ℕ) (c : ℕ) (syncs : Syncs) → AreSized syncs (after_signal_to next c syncs)
sized_signal_to None c syncs = sized_same syncs
sized_signal_to (Some t) c syncs = sized_unblock t c (Some 0) syncs

pub sized_signal : (c : ℕ) (syncs : Syncs) → AreSized syncs (after_signal c syncs)
sized_signal c syncs = sized_signal_to (first_of_greatest (effective_priority syncs.locks) (condition_waiters syncs c)) c syncs

sized_signals : (n c : ℕ) (syncs : Syncs) → AreSized syncs (iterate (after_signal c) n syncs)
sized_signals zero c syncs = sized_same syncs
sized_signals (suc n) c syncs = sized_then syncs (after_signal c syncs) (iterate (after_signal c) n (after_signal c syncs)) (sized_signal c syncs) (sized_signals n c (after_signal c syncs))

pub sized_broadcast : (c : ℕ) (syncs : Syncs) → AreSized syncs (after_broadcast c syncs)
sized_broadcast c syncs = sized_signals (length (condition_waiters syncs c)) c syncs

-- the mutex is released, and the thread waits
pub sized_condition_wait : (t c m : ℕ) (deadline : Option ℕ) (syncs : Syncs) → AreSized syncs (after_condition_wait t c m deadline syncs)
sized_condition_wait t c m deadline syncs = record {
  threads = length-changed t _ (after_unlock m syncs.locks).threads ∙ length-unlock_threads m syncs.locks;
  mutexes = length-unlock_mutexes m syncs.locks;
  conditions = length-pool_set syncs.conditions c _;
}
