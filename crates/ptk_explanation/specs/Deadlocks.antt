-- Threads that wait for one another in a cycle.
use Rattle.std.specs.Prelude.{◌≡◌, ℕ, suc, Option, Some, None}
use Rattle.ptk_words.specs.Names.{ThreadNumber}
use Rattle.ptk_words.specs.declared.threads.Wait.{Wait}
use Rattle.ptk_words.specs.declared.threads.Wait.TheVariants.{InputWait, SleepWait, JoinWait, MutexWait, ConditionWait, RelockWait}
use Rattle.ptk_words_model.specs.State.{Locks, Part}
use Rattle.ptk_words_model.specs.Chain.{steps_from}
use Rattle.ptk_system.specs.declared.activity.Activity.{Activity}
use Rattle.ptk_system.specs.declared.activity.Activity.TheVariants as activity
use Rattle.ptk_system.specs.Activities.{activity_in, owner_thread}

-- the thread for which a wait is: the owner of its mutex, or the thread whose end it is for; None if it has a deadline, at which it ends by itself (pthread_mutex_lock, pthread_mutex_timedlock, pthread_join)
abbrev pub blocker_of_wait : Locks → Wait → Option ThreadNumber
blocker_of_wait locks InputWait = None
blocker_of_wait locks (SleepWait deadline) = None
blocker_of_wait locks (JoinWait u) = Some u
blocker_of_wait locks (MutexWait m None) = owner_thread locks m
blocker_of_wait locks (MutexWait m (Some deadline)) = None
blocker_of_wait locks (ConditionWait c m deadline) = None
blocker_of_wait locks (RelockWait m reply) = owner_thread locks m

-- the thread for which a thread that does this waits, None if it waits for none (own)
abbrev pub blocker_of : Locks → Activity → Option ThreadNumber
blocker_of locks activity.Free = None
blocker_of locks activity.Running = None
blocker_of locks activity.Ready = None
blocker_of locks (activity.Blocked wait) = blocker_of_wait locks wait
blocker_of locks activity.Ended = None
blocker_of locks activity.Halted = None

-- the thread for which a thread of a partition waits
abbrev pub blocker_in : Part → ThreadNumber → Option ThreadNumber
blocker_in s t = blocker_of s.locks (activity_in t s)

-- some number of waits, one at least, leads from the thread back to it (own)
abbrev pub IsDeadlocked : Part → ThreadNumber → Type 0
IsDeadlocked s t = (n : ℕ) × (steps_from (blocker_in s) t (suc n) ≡ Some t)
