-- What holds of a partition's threads, mutexes and condition variables between moves, where waits may have deadlines.
use Rattle.std.specs.Prelude.{IsSome, ◌≡◌, ℕ, ◌<◌, true, false, List, nat_eq, Option, Some, None}
use Rattle.std.specs.List.{IsDistinct}
use Rattle.ptk_words.specs.Names.{ThreadNumber}
use Rattle.ptk_words.specs.Pools.{pool_get, is_in}
use Rattle.ptk_words.specs.Threads.{condition_of_wait}
use Rattle.ptk_words.specs.declared.TheConstants.{COUNT_LIMIT}
use Rattle.ptk_words.specs.declared.threads.Thread.{Thread}
use Rattle.ptk_words.specs.declared.threads.Wait.TheVariants.{InputWait, JoinWait}
use Rattle.ptk_words_model.specs.declared.LockMove.TheVariants.{Counts}
use Rattle.ptk_words_model.specs.State.{Mutex, Condition, Syncs}
use Rattle.ptk_words_model.specs.Priority.{thread_at}
use Rattle.ptk_words_model.specs.Mutex.{wait_of, waiters_of, count_of, relock_move}
use Rattle.ptk_words_model.specs.Condition.{mutex_of_condition_wait, waiters_on}
use Rattle.ptk_words_model.specs.Unwinding.{is_alive}
use Rattle.ptk_words_sync_invariant.specs.Locks.{joiner_of, used_of, AreMutexes, AreLined}

-- where a re-lock of the thread counts up, the count is below the limit (pthread_cond_wait, PTHREAD_MUTEX_RECURSIVE)
abbrev pub HasRoom : ThreadNumber → Option Mutex → Type 0
HasRoom t x = relock_move t x ≡ Counts → count_of x < COUNT_LIMIT

-- the thread is in no list of waiters (own)
pub record IsNoWaiter (t : ℕ) (mutexes : List (Option Mutex)) (conditions : List (Option Condition)) : Type 0 where
  pub of_mutexes : (m : ℕ) → is_in t (waiters_of (pool_get mutexes m)) ≡ false
  pub of_conditions : (c : ℕ) → is_in t (waiters_on (pool_get conditions c)) ≡ false

-- the condition variables agree with the threads and the mutexes: the waiters of each are the threads whose wait is on it, none of them twice; the mutex that a waiter names is in use, and has room for the waiter's re-lock (pthread_cond_wait; pthread_mutex_destroy, EBUSY)
pub record AreConditions (threads : List (Option Thread)) (mutexes : List (Option Mutex)) (conditions : List (Option Condition)) : Type 0 where
  pub waiters_wait : (c t : ℕ) → is_in t (waiters_on (pool_get conditions c)) ≡ true → condition_of_wait (wait_of (pool_get threads t)) ≡ Some c
  pub waits_listed : (c t : ℕ) → condition_of_wait (wait_of (pool_get threads t)) ≡ Some c → is_in t (waiters_on (pool_get conditions c)) ≡ true
  pub waiters_distinct : (c : ℕ) → IsDistinct nat_eq (waiters_on (pool_get conditions c))
  pub named_used : (t m : ℕ) → mutex_of_condition_wait (wait_of (pool_get threads t)) ≡ Some m → IsSome (pool_get mutexes m)
  pub room : (t m : ℕ) → mutex_of_condition_wait (wait_of (pool_get threads t)) ≡ Some m → HasRoom t (pool_get mutexes m)

-- the console's waiters wait for input, a thread's joiner waits for its end, and each such wait is listed so; an ended thread waits for nothing (pthread_join, pthread_exit)
pub record AreListed (threads : List (Option Thread)) (waiters : List ℕ) : Type 0 where
  pub waiters_wait : (t : ℕ) → is_in t waiters ≡ true → wait_of (pool_get threads t) ≡ Some InputWait
  pub waiters_distinct : IsDistinct nat_eq waiters
  pub waits_listed : (t : ℕ) → wait_of (pool_get threads t) ≡ Some InputWait → is_in t waiters ≡ true
  pub joiners_wait : (t u : ℕ) → joiner_of (pool_get threads u) ≡ Some t → wait_of (pool_get threads t) ≡ Some (JoinWait u)
  pub joins_listed : (t u : ℕ) → wait_of (pool_get threads t) ≡ Some (JoinWait u) → joiner_of (pool_get threads u) ≡ Some t
  pub ended_wait : (t : ℕ) → is_alive (pool_get threads t) ≡ false → wait_of (pool_get threads t) ≡ None

-- the threads, the line, the mutexes and the condition variables are whole, with this running thread and these waiters for input, and no thread has used its interval
pub record AreSyncs (interval : ℕ) (running : Option ℕ) (waiters : List ℕ) (syncs : Syncs) : Type 0 where
  pub lined : AreLined syncs.threads syncs.line running
  pub waiting : AreListed syncs.threads waiters
  pub exclusion : AreMutexes syncs.threads syncs.mutexes
  pub conditions : AreConditions syncs.threads syncs.mutexes syncs.conditions
  pub used : (t : ℕ) → used_of (thread_at syncs.locks t) < interval
