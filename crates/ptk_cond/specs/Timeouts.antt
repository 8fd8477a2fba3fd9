-- What the coming of a deadline does to threads, line, mutexes and condition variables.
use Rattle.std.specs.Prelude.{◌≡◌, ℕ, true, false, [], ◌∷◌, Option, Some, None}
use Rattle.ptk_words.specs.Names.{MutexNumber, ThreadNumber}
use Rattle.ptk_words.specs.Pools.{is_in}
use Rattle.ptk_words.specs.Faults.{errno_number}
use Rattle.ptk_words.specs.declared.faults.Errno.TheVariants.{ETIMEDOUT}
use Rattle.ptk_words.specs.declared.threads.Wait.{Wait}
use Rattle.ptk_words.specs.declared.threads.Wait.TheVariants.{InputWait, SleepWait, JoinWait, MutexWait, ConditionWait, RelockWait}
use Rattle.ptk_words_model.specs.State.{Syncs}
use Rattle.ptk_words_model.specs.Priority.{awaited, thread_at}
use Rattle.ptk_words.specs.Threads.{condition_of_wait}
use Rattle.ptk_words_model.specs.Schedule.{after_wake}
use Rattle.ptk_words_model.specs.Mutex.{mutex_at, wait_of, waiters_of}
use Rattle.ptk_words_model.specs.Condition.{condition_waiters, after_unblock}
use Rattle.ptk_cond.specs.Moves.{after_withdrawal}

-- the deadline of a wait comes, as `after_timeout` has it, of what it reads and changes (clock_nanosleep, pthread_mutex_timedlock, pthread_cond_timedwait)
abbrev pub after_sync_timeout : ThreadNumber → Option Wait → Syncs → Syncs
after_sync_timeout t None syncs = syncs
after_sync_timeout t (Some InputWait) syncs = syncs
after_sync_timeout t (Some (SleepWait deadline)) syncs = record syncs { locks = after_wake t (0 ∷ []) syncs.locks }
after_sync_timeout t (Some (JoinWait u)) syncs = syncs
after_sync_timeout t (Some (MutexWait m deadline)) syncs = record syncs { locks = after_withdrawal t m (Some (errno_number ETIMEDOUT)) syncs.locks }
after_sync_timeout t (Some (ConditionWait c m deadline)) syncs = after_unblock t c (Some (errno_number ETIMEDOUT)) syncs
after_sync_timeout t (Some (RelockWait m reply)) syncs = syncs

-- a thread that waits is not in the line, and one that waits for a mutex or on a condition variable is among its waiters (pthread_mutex_lock, pthread_cond_wait)
pub record IsBlocked (syncs : Syncs) (t : ℕ) : Type 0 where
  pub out : (wait : Wait) → wait_of (thread_at syncs.locks t) ≡ Some wait → is_in t syncs.line ≡ false
  pub queued : (m : ℕ) → awaited (thread_at syncs.locks t) ≡ Some m → is_in t (waiters_of (mutex_at syncs.locks m)) ≡ true
  pub listed : (c : ℕ) → condition_of_wait (wait_of (thread_at syncs.locks t)) ≡ Some c → is_in t (condition_waiters syncs c) ≡ true

-- the mutex that a wait is to lock first (pthread_mutex_lock, pthread_mutex_timedlock)
abbrev pub mutex_locked : Option Wait → Option MutexNumber
mutex_locked None = None
mutex_locked (Some InputWait) = None
mutex_locked (Some (SleepWait deadline)) = None
mutex_locked (Some (JoinWait u)) = None
mutex_locked (Some (MutexWait m deadline)) = Some m
mutex_locked (Some (ConditionWait c m deadline)) = None
mutex_locked (Some (RelockWait m reply)) = None
