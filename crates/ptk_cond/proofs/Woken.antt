-- Whom a signal wakes, and that it leaves alone who waits for nothing.
use Rattle.std.proofs.Common.{◌≡◌, ℕ, true, List, refl, sym, ◌∙◌, ap, subst}
use Rattle.std.specs.Prelude.{Option, Some, None, is_some}
use Rattle.ptk_words.specs.Pools.{is_in}
use Rattle.ptk_words.specs.Threads.{condition_of_wait, mutex_of_condition_wait}
use Rattle.ptk_words.specs.declared.threads.Thread.{Thread}
use Rattle.ptk_words.specs.declared.threads.Wait.{Wait}
use Rattle.ptk_words.specs.Parts.{part_of}
use Rattle.ptk_words_model.specs.declared.LockMove.{LockMove}
use Rattle.ptk_words_model.specs.declared.LockMove.TheVariants.{Takes, Recovers, Counts, Waits, Refuses}
use Rattle.ptk_words_model.specs.State.{Locks, Syncs}
use Rattle.ptk_words_model.specs.Priority.{thread_at}
use Rattle.ptk_words_model.specs.Mutex.{mutex_at, relock_move, wait_of, after_relock_move}
use Rattle.ptk_words_model.specs.Condition.{condition_waiters, after_signal, after_signal_to, after_unblock_for}
use Rattle.ptk_threads.proofs.Pools.{part_of-set}
use Rattle.ptk_mutex.specs.SyncRosters.{Rostered}
use Rattle.ptk_mutex.specs.Sound.{AreWaiting, put_syncs}
use Rattle.ptk_mutex.proofs.Sound.{of_part, AreSyncedAt}
use Rattle.ptk_mutex.proofs.WokenMoves.{IsStillAt}
use Rattle.ptk_mutex.proofs.WokenSets.{IsStill, still_same, still_changed}
use Rattle.ptk_cond.specs.Tables.{next_waiter, MayLeave}
use Rattle.ptk_cond.proofs.Waiters.{next_may_leave}

some_waits : (c : ℕ) (wait : Option Wait) → condition_of_wait wait ≡ Some c → is_some wait ≡ true
some_waits c None named = let no : ⊥ = cc in absurd no
some_waits c (Some wait) named = refl

-- a waiter on a condition variable waits
pub waiter_waits : (t c : ℕ) (syncs : Syncs) → AreWaiting syncs → is_in t (condition_waiters syncs c) ≡ true → is_some (wait_of (thread_at syncs.locks t)) ≡ true
waiter_waits t c syncs waiting inside = some_waits c (wait_of (thread_at syncs.locks t)) (waiting.waiters c t inside).waits

-- ---- who waits for nothing stays

still_relock : (made : LockMove) (t m : ℕ) (reply : Option ℕ) (locks : Locks) → is_some (wait_of (thread_at locks t)) ≡ true → IsStill locks.threads (after_relock_move made t m reply locks).threads
still_relock Takes t m reply locks waits = still_changed t _ locks.threads waits
still_relock Recovers t m reply locks waits = still_changed t _ locks.threads waits
still_relock Counts t m reply locks waits = still_changed t _ locks.threads waits
still_relock Waits t m reply locks waits = still_changed t _ locks.threads waits
still_relock (Refuses errno) t m reply locks waits = still_changed t _ locks.threads waits

still_unblock : (t c : ℕ) (reply named : Option ℕ) (syncs : Syncs) → is_some (wait_of (thread_at syncs.locks t)) ≡ true → IsStill syncs.threads (after_unblock_for t c reply named syncs).threads
still_unblock t c reply None syncs waits = still_same syncs.threads
still_unblock t c reply (Some m) syncs waits = still_relock (relock_move t (mutex_at syncs.locks m)) t m reply syncs.locks waits

still_signal_to : (next : Option ℕ) (c : ℕ) (syncs : Syncs) → AreWaiting syncs → MayLeave next syncs c → IsStill syncs.threads (after_signal_to next c syncs).threads
still_signal_to None c syncs waiting may = still_same syncs.threads
still_signal_to (Some t) c syncs waiting may = still_unblock t c (Some 0) (mutex_of_condition_wait (wait_of (thread_at syncs.locks t))) syncs (waiter_waits t c syncs waiting may)

pub still_signal : (p c : ℕ) (a b : Rostered) → AreSyncedAt p a → b ≡ put_syncs p (after_signal c (of_part p a)) a → IsStillAt p a b
still_signal p c a b synced e =
    let syncs : Syncs = of_part p a in
    let there : part_of b.table.threads p ≡ (after_signal c syncs).threads = ap (λ (r : Rostered). part_of r.table.threads p) e ∙ part_of-set a.table.threads p (after_signal c syncs).threads synced.ready.part.of_threads in
    subst (λ (threads : List (Option Thread)). IsStill (part_of a.table.threads p) threads) (sym there)
    (still_signal_to (next_waiter c syncs) c syncs synced.waiting (next_may_leave c syncs (next_waiter c syncs) refl))
