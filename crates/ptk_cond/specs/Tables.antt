-- Whom a signal chooses among the waiters of a condition variable, and threads without a line or mutexes.
use Rattle.std.specs.Prelude.{◌≡◌, ℕ, true, List, [], Option, Some, None}
use Rattle.ptk_words.specs.Names.{ConditionNumber, ThreadNumber}
use Rattle.ptk_words.specs.Pools.{is_in, first_of_greatest}
use Rattle.ptk_words.specs.declared.threads.Thread.{Thread}
use Rattle.ptk_words_model.specs.State.{Condition, Syncs, locks_of}
use Rattle.ptk_words_model.specs.Priority.{effective_priority}
use Rattle.ptk_words_model.specs.Condition.{condition_waiters}
pub use Rattle.ptk_mutex.specs.Sound.{syncs_by, syncs_at, put_syncs, IsOnCondition, AreWaiting, AreSyncedBy, AreSynced, IsAwake}

-- threads and condition variables without a line or mutexes, on which no mutex that is named depends (own)
abbrev pub syncs_of : List (Option Thread) → List (Option Condition) → Syncs
syncs_of threads conditions = record { locks = locks_of threads []; conditions = conditions }

-- the waiter of greatest effective priority, the earliest among equals (pthread_cond_signal; own)
abbrev pub next_waiter : ConditionNumber → Syncs → Option ThreadNumber
next_waiter c syncs = first_of_greatest (effective_priority syncs.locks) (condition_waiters syncs c)

-- nobody, or a waiter of the condition variable (pthread_cond_signal)
abbrev pub MayLeave : Option ℕ → Syncs → ℕ → Type 0
MayLeave None syncs c = Unit {0}
MayLeave (Some t) syncs c = is_in t (condition_waiters syncs c) ≡ true
