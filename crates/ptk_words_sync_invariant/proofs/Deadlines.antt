-- The deadlines of the threads, which a change of a thread and a deadline that comes change.
use Rattle.std.proofs.Common.{◌≡◌, ℕ, zero, suc, List, [], ◌∷◌, refl, sym, ◌∙◌, ap}
use Rattle.std.specs.Prelude.{Option, Some, None, map, filter, filter_map, nat_le, slice_get, slice_set, ◌-◌, option_map, option_to_list}
use Rattle.std.specs.List.{enumerate_from}
use Rattle.std.specs.Option.{option_flatten}
use Rattle.std.proofs.lemmas.List.{map-set}
use Rattle.ptk_words.specs.Pools.{pool_get, pool_set, pool_changed}
use Rattle.ptk_words.specs.declared.faults.Errno.TheVariants.{ETIMEDOUT}
use Rattle.ptk_words.specs.declared.threads.Thread.{Thread}
use Rattle.ptk_words.specs.declared.threads.Wait.{Wait}
use Rattle.ptk_words.specs.Threads.{deadline_of_wait, condition_of_wait}
use Rattle.ptk_words.specs.Faults.{errno_number}
use Rattle.ptk_words.specs.declared.threads.Wait.TheVariants.{InputWait, SleepWait, JoinWait, MutexWait, ConditionWait, RelockWait}
use Rattle.ptk_words_model.specs.Withdrawal.{Expiry, expiry_of, deadlines_of, after_timeout}
use Rattle.ptk_words_model.specs.declared.LockMove.TheVariants.{Refuses, Takes, Recovers, Counts, Waits}
use Rattle.ptk_words_model.specs.State.{Locks, Syncs, Part}
use Rattle.ptk_words_model.specs.Priority.{thread_at}
use Rattle.ptk_words_model.specs.Schedule.{with_thread, at_tail_with, woken_with}
use Rattle.ptk_words_model.specs.Mutex.{mutex_at, wait_of, move_reply, relock_move, after_relock_move, after_relock}
use Rattle.ptk_words_model.specs.declared.LockMove.{LockMove}
use Rattle.ptk_words_model.specs.Condition.{mutex_of_condition_wait, after_unblock_for, after_unblock}
use Rattle.ptk_words_sync_invariant.proofs.Threads.{IsWaking, waking_waits, in_wait, waking_woken}
use Rattle.ptk_words_sync_invariant.proofs.Conditions.{waits_on, IsConditionWait, condition_wait}

-- ---- lists of deadlines by thread number

pub map-pool_set : {A B : Type 0} (g : A → B) (t : ℕ) (a : A) (pool : List A) → map g (pool_set pool t a) ≡ pool_set (map g pool) t (g a)
map-pool_set g zero a pool = refl
map-pool_set g (suc i) a pool = map-set g pool i a

get-map_at : {A B : Type 0} (g : Option A → Option B) (i : ℕ) (pool : List (Option A)) → g None ≡ None → option_flatten (slice_get (map g pool) i) ≡ g (option_flatten (slice_get pool i))
get-map_at g i [] none = sym none
get-map_at g zero (x ∷ pool) none = refl
get-map_at g (suc i) (x ∷ pool) none = get-map_at g i pool none

pub get-map : {A B : Type 0} (g : Option A → Option B) (t : ℕ) (pool : List (Option A)) → g None ≡ None → pool_get (map g pool) t ≡ g (pool_get pool t)
get-map g zero pool none = sym none
get-map g (suc i) pool none = get-map_at g i pool none

free_at : {A : Type 0} (i : ℕ) (pool : List (Option A)) → option_flatten (slice_get pool i) ≡ None → slice_set pool i None ≡ pool
free_at i [] e = refl
free_at zero (x ∷ pool) e = ap (λ y. y ∷ pool) (sym e)
free_at (suc i) (x ∷ pool) e = ap (λ rest. x ∷ rest) (free_at i pool e)

-- what is free stays as it is where it is made free
pub free_again : {A : Type 0} (t : ℕ) (pool : List (Option A)) → pool_get pool t ≡ None → pool_set pool t None ≡ pool
free_again zero pool e = refl
free_again (suc i) pool e = free_at i pool e

-- the expiries among deadlines whose first is that of thread k (own)
abbrev pub due_of : ℕ → ℕ → List (Option ℕ) → List Expiry
due_of tick k deadlines = filter (λ a. nat_le a.deadline tick) (filter_map expiry_of (enumerate_from k deadlines))

-- ---- one thread

-- the deadline of a thread, none of one that has none (own)
abbrev pub deadline_at : Option Thread → Option ℕ
deadline_at o = deadline_of_wait (wait_of o)

pub deadlines-get : (t : ℕ) (locks : Locks) → pool_get (deadlines_of locks) t ≡ deadline_of_wait (wait_of (thread_at locks t))
deadlines-get t locks = get-map deadline_at t locks.threads refl

pub changed_deadline : (t : ℕ) (f : Thread → Thread) (deadline : Option ℕ) (threads : List (Option Thread)) → deadline_at (option_map f (pool_get threads t)) ≡ deadline → map deadline_at (pool_changed t f threads) ≡ pool_set (map deadline_at threads) t deadline
changed_deadline t f deadline threads e = map-pool_set deadline_at t (option_map f (pool_get threads t)) threads ∙ ap (pool_set (map deadline_at threads) t) e

-- a thread is woken
pub deadlines-woken : (t : ℕ) (f : Thread → Thread) (locks : Locks) → IsWaking f → deadlines_of (at_tail_with f t locks) ≡ pool_set (deadlines_of locks) t None
deadlines-woken t f locks waking = changed_deadline t f None locks.threads (ap deadline_of_wait (waking_waits f (thread_at locks t) waking))

same_entry : {A : Type 0} (i : ℕ) (pool : List (Option A)) → slice_set pool i (option_flatten (slice_get pool i)) ≡ pool
same_entry i [] = refl
same_entry zero (x ∷ pool) = refl
same_entry (suc i) (x ∷ pool) = ap (λ rest. x ∷ rest) (same_entry i pool)

same_number : {A : Type 0} (t : ℕ) (pool : List (Option A)) → pool_set pool t (pool_get pool t) ≡ pool
same_number zero pool = refl
same_number (suc i) pool = same_entry i pool

-- a thread changed whose wait stays
pub deadlines-kept : (t : ℕ) (f : Thread → Thread) (locks : Locks) → wait_of (option_map f (thread_at locks t)) ≡ wait_of (thread_at locks t) → deadlines_of (with_thread t f locks) ≡ deadlines_of locks
deadlines-kept t f locks same =
    changed_deadline t f (deadline_at (thread_at locks t)) locks.threads (ap deadline_of_wait same) ∙ sym (map-pool_set deadline_at t (thread_at locks t) locks.threads) ∙ ap (map deadline_at) (same_number t locks.threads)

-- ---- a re-lock

relock_wait : (m : ℕ) (reply : Option ℕ) (o : Option Thread) → deadline_of_wait (wait_of (option_map (in_wait (RelockWait m reply)) o)) ≡ None
relock_wait m reply None = refl
relock_wait m reply (Some thread) = refl

relock_by : (move : LockMove) (t m : ℕ) (reply : Option ℕ) (locks : Locks) → deadlines_of (after_relock_move move t m reply locks) ≡ pool_set (deadlines_of locks) t None
relock_by Takes t m reply locks = deadlines-woken t (woken_with (option_to_list (move_reply Takes reply))) locks (waking_woken (option_to_list (move_reply Takes reply)))
relock_by Recovers t m reply locks = deadlines-woken t (woken_with (option_to_list (move_reply Recovers reply))) locks (waking_woken (option_to_list (move_reply Recovers reply)))
relock_by Counts t m reply locks = deadlines-woken t (woken_with (option_to_list (move_reply Counts reply))) locks (waking_woken (option_to_list (move_reply Counts reply)))
relock_by Waits t m reply locks = changed_deadline t (in_wait (RelockWait m reply)) None locks.threads (relock_wait m reply (thread_at locks t))
relock_by (Refuses e) t m reply locks = deadlines-woken t (woken_with (option_to_list (move_reply (Refuses e) reply))) locks (waking_woken (option_to_list (move_reply (Refuses e) reply)))

-- the re-locking thread's, whether it waits on or not
pub deadlines-relock : (t m : ℕ) (reply : Option ℕ) (locks : Locks) → deadlines_of (after_relock t m reply locks) ≡ pool_set (deadlines_of locks) t None
deadlines-relock t m reply locks = relock_by (relock_move t (mutex_at locks m)) t m reply locks

-- ---- a deadline comes

-- of a waiter that is unblocked
pub deadlines-unblock : (t c : ℕ) (reply : Option ℕ) (syncs : Syncs) → waits_on (thread_at syncs.locks t) ≡ Some c → deadlines_of (after_unblock t c reply syncs).locks ≡ pool_set (deadlines_of syncs.locks) t None
deadlines-unblock t c reply syncs on =
    let is : IsConditionWait c (wait_of (thread_at syncs.locks t)) = condition_wait c (wait_of (thread_at syncs.locks t)) on in
    ap (λ (o : Option ℕ). deadlines_of (after_unblock_for t c reply o syncs).locks) (ap mutex_of_condition_wait is.waits) ∙ deadlines-relock t is.mutex reply syncs.locks

untimed_same : (t : ℕ) (wait : Option Wait) (s : Part) → wait_of (thread_at s.locks t) ≡ wait → deadline_of_wait wait ≡ None → deadlines_of s.locks ≡ pool_set (deadlines_of s.locks) t None
untimed_same t wait s e none = sym (free_again t (deadlines_of s.locks) (deadlines-get t s.locks ∙ ap deadline_of_wait e ∙ none))

timeout_of : (t : ℕ) (wait : Option Wait) (s : Part) → wait_of (thread_at s.locks t) ≡ wait → deadlines_of (after_timeout t wait s).locks ≡ pool_set (deadlines_of s.locks) t None
timeout_of t None s e = untimed_same t None s e refl
timeout_of t (Some InputWait) s e = untimed_same t (Some InputWait) s e refl
timeout_of t (Some (SleepWait deadline)) s e = deadlines-woken t (woken_with (0 ∷ [])) s.locks (waking_woken (0 ∷ []))
timeout_of t (Some (JoinWait u)) s e = untimed_same t (Some (JoinWait u)) s e refl
timeout_of t (Some (MutexWait m deadline)) s e = deadlines-woken t (woken_with (errno_number ETIMEDOUT ∷ [])) s.locks (waking_woken (errno_number ETIMEDOUT ∷ []))
timeout_of t (Some (ConditionWait c m deadline)) s e = deadlines-unblock t c (Some (errno_number ETIMEDOUT)) s.syncs (ap condition_of_wait e)
timeout_of t (Some (RelockWait m reply)) s e = untimed_same t (Some (RelockWait m reply)) s e refl

-- of the thread whose deadline comes, and of no other
pub deadlines-timeout : (t : ℕ) (s : Part) → deadlines_of (after_timeout t (wait_of (thread_at s.locks t)) s).locks ≡ pool_set (deadlines_of s.locks) t None
deadlines-timeout t s = timeout_of t (wait_of (thread_at s.locks t)) s refl
