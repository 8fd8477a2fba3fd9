-- Condition variables: wait, signal and broadcast (pthread_cond_wait, pthread_cond_signal).
use Rattle.std.specs.Prelude.{Bool, false, not, List, [], ◌∷◌, ◌++◌, length, ◌==◌, Option, Some, None, option_map, unwrap_or}
use Rattle.std.specs.Fn.{iterate}
use Rattle.std.specs.List.{list_any}
use Rattle.ptk_words.specs.Names.{ConditionNumber, MutexNumber, ThreadNumber, Tick, Word}
use Rattle.ptk_words.specs.Pools.{pool_get, pool_set, without, first_of_greatest}
use Rattle.ptk_words.specs.declared.threads.Wait.TheVariants.{ConditionWait}
pub use Rattle.ptk_words.specs.Threads.{mutex_of_condition_wait}
use Rattle.ptk_words_model.specs.State.{Condition, Locks, Syncs}
use Rattle.ptk_words_model.specs.Priority.{thread_at, effective_priority}
use Rattle.ptk_words_model.specs.Schedule.{with_thread}
use Rattle.ptk_words_model.specs.Mutex.{after_unlock, after_relock, wait_of}

-- ---- parts

-- the waiters of a condition variable, none of a free number (pthread_cond_wait)
abbrev pub waiters_on : Option Condition → List ThreadNumber
waiters_on x = unwrap_or (option_map (λ condition. condition.waiters) x) []

-- the waiters of the condition variable of a number (pthread_cond_wait)
abbrev pub condition_waiters : Syncs → ConditionNumber → List ThreadNumber
condition_waiters syncs c = waiters_on (pool_get syncs.conditions c)

-- the condition variable with these waiters
abbrev pub with_condition_waiters : ConditionNumber → List ThreadNumber → Syncs → Syncs
with_condition_waiters c waiters syncs = record syncs { conditions = pool_set syncs.conditions c (Some (record { waiters = waiters })) }

-- the mutex named is m
abbrev pub is_named : MutexNumber → Option MutexNumber → Bool
is_named m None = false
is_named m (Some n) = n == m

-- a thread waits on a condition variable and is to have the mutex again (pthread_mutex_destroy)
abbrev pub names_mutex : Locks → MutexNumber → Bool
names_mutex locks m = list_any (λ thread. is_named m (mutex_of_condition_wait (wait_of thread))) locks.threads

-- a waiter of the condition variable names another mutex (pthread_cond_wait, EINVAL)
abbrev pub names_another : Syncs → ConditionNumber → MutexNumber → Bool
names_another syncs c m =
    list_any (λ t. not (is_named m (mutex_of_condition_wait (wait_of (thread_at syncs.locks t))))) (condition_waiters syncs c)

-- ---- moves

-- the mutex is released once and the thread blocks on the condition variable, until the deadline if there is one, as one action (pthread_cond_wait, pthread_cond_timedwait; own)
abbrev pub after_condition_wait : ThreadNumber → ConditionNumber → MutexNumber → Option Tick → Syncs → Syncs
after_condition_wait t c m deadline syncs =
    with_condition_waiters c (condition_waiters syncs c ++ t ∷ [])
    (record syncs { locks = with_thread t (λ thread. record thread { wait = Some (ConditionWait c m deadline) }) (after_unlock m syncs.locks) })

-- the waiter has left the condition variable and re-locks the mutex that it named, with this reply (pthread_cond_wait)
abbrev pub after_unblock_for : ThreadNumber → ConditionNumber → Option Word → Option MutexNumber → Syncs → Syncs
after_unblock_for t c reply None syncs = syncs
after_unblock_for t c reply (Some m) syncs =
    with_condition_waiters c (without t (condition_waiters syncs c)) (record syncs { locks = after_relock t m reply syncs.locks })

-- the waiter has left the condition variable and re-locks its mutex, with this reply (pthread_cond_wait)
abbrev pub after_unblock : ThreadNumber → ConditionNumber → Option Word → Syncs → Syncs
after_unblock t c reply syncs = after_unblock_for t c reply (mutex_of_condition_wait (wait_of (thread_at syncs.locks t))) syncs

-- the waiter, if there is one, is unblocked with 0 (pthread_cond_signal)
abbrev pub after_signal_to : Option ThreadNumber → ConditionNumber → Syncs → Syncs
after_signal_to None c syncs = syncs
after_signal_to (Some t) c syncs = after_unblock t c (Some 0) syncs

-- the waiter of greatest effective priority, the earliest among equals, is unblocked (pthread_cond_signal; own)
abbrev pub after_signal : ConditionNumber → Syncs → Syncs
after_signal c syncs = after_signal_to (first_of_greatest (effective_priority syncs.locks) (condition_waiters syncs c)) c syncs

-- signal, once for each waiter, each choice in the state that the one before left (pthread_cond_broadcast; own)
abbrev pub after_broadcast : ConditionNumber → Syncs → Syncs
after_broadcast c syncs = iterate (after_signal c) (length (condition_waiters syncs c)) syncs
