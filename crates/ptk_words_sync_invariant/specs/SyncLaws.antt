-- That waits, wakings and the expiries of a tick keep threads, line, mutexes and condition variables whole.
use Rattle.std.specs.Prelude.{IsSome, ◌≡◌, ℕ, true, List, Option, Some, None}
use Rattle.ptk_words.specs.Pools.{pool_get}
use Rattle.ptk_words.specs.declared.threads.Wait.TheVariants.{SleepWait, MutexWait}
use Rattle.ptk_words_model.specs.declared.LockMove.{LockMove}
use Rattle.ptk_words_model.specs.State.{Syncs, Part}
use Rattle.ptk_words_model.specs.Priority.{awaited, thread_at}
use Rattle.ptk_words_model.specs.Schedule.{with_thread}
use Rattle.ptk_words_model.specs.Time.{Timespec}
use Rattle.ptk_words_model.specs.Mutex.{mutex_at, owns, lock_move, after_move, after_unlock, after_owner_end}
use Rattle.ptk_words_model.specs.MutexCalls.{timed_move}
use Rattle.ptk_words_model.specs.Condition.{after_condition_wait, after_signal, after_broadcast}
use Rattle.ptk_words_model.specs.Withdrawal.{after_expiries}
use Rattle.ptk_words_sync_invariant.specs.LockLaws.{running_after}
use Rattle.ptk_words_sync_invariant.specs.Conditions.{AreSyncs}

-- ---- waits

-- the move of thread t's timed lock of mutex m, until this time, at this tick (pthread_mutex_timedlock)
abbrev pub timed_lock_move : ℕ → ℕ → Timespec → ℕ → Syncs → LockMove
timed_lock_move t m time tick syncs = timed_move (lock_move syncs.locks t (mutex_at syncs.locks m)) time tick

-- what the running thread t leaves is whole when it sleeps until a deadline and when it locks mutex m with one (clock_nanosleep, pthread_mutex_timedlock)
pub record AreTimedWaitsWhole (interval t m tick deadline : ℕ) (time : Timespec) (waiters : List ℕ) (syncs : Syncs) : Type 0 where
  pub sleep : AreSyncs interval None waiters (record syncs { locks = with_thread t (λ thread. record thread { wait = Some (SleepWait deadline) }) syncs.locks })
  pub lock : AreSyncs interval (running_after (timed_lock_move t m time tick syncs) t) waiters (record syncs { locks = after_move (timed_lock_move t m time tick syncs) t m (MutexWait m (Some deadline)) syncs.locks })

-- a running thread's waits keep all whole: those with a deadline, and a wait on condition variable c, which releases its mutex m (pthread_cond_wait, pthread_cond_timedwait)
pub record WaitsKeepSyncs (interval : ℕ) (waiters : List ℕ) (syncs : Syncs) : Type 0 where
  pub timed : (t m tick deadline : ℕ) (time : Timespec) → AreSyncs interval (Some t) waiters syncs → AreTimedWaitsWhole interval t m tick deadline time waiters syncs
  pub condition : (t c m : ℕ) (deadline : Option ℕ) → owns t (mutex_at syncs.locks m) ≡ true → IsSome (pool_get syncs.conditions c) → AreSyncs interval (Some t) waiters syncs → AreSyncs interval None waiters (after_condition_wait t c m deadline syncs)

-- ---- wakings

-- an unlock of mutex m, the end of a thread t that waits for no mutex, and a signal and a broadcast of condition variable c keep all whole (pthread_mutex_unlock, pthread_mutexattr_setrobust, pthread_cond_signal, pthread_cond_broadcast)
pub record WakingsKeepSyncs (interval : ℕ) (running : Option ℕ) (waiters : List ℕ) (syncs : Syncs) : Type 0 where
  pub unlock : (m : ℕ) → AreSyncs interval running waiters syncs → AreSyncs interval running waiters (record syncs { locks = after_unlock m syncs.locks })
  pub owner_end : (t : ℕ) → awaited (thread_at syncs.locks t) ≡ None → AreSyncs interval running waiters syncs → AreSyncs interval running waiters (record syncs { locks = after_owner_end t syncs.locks })
  pub signal : (c : ℕ) → AreSyncs interval running waiters syncs → AreSyncs interval running waiters (after_signal c syncs)
  pub broadcast : (c : ℕ) → AreSyncs interval running waiters syncs → AreSyncs interval running waiters (after_broadcast c syncs)

-- ---- expiries

-- the expiries of every tick keep all whole
abbrev pub ExpiriesKeepSyncs : ℕ → Part → Type 0
ExpiriesKeepSyncs interval s =
    (tick : ℕ) → AreSyncs interval s.running s.console.waiters s.syncs → AreSyncs interval (after_expiries tick s).running (after_expiries tick s).console.waiters (after_expiries tick s).syncs
