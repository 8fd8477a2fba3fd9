-- How far a thread is, what it waits for, and what it leaves at its number.
use Rattle.std.specs.Prelude.{Bool, true, false, ◌||◌, if◌then◌else◌, Option, Some, None, is_some}
use Rattle.ptk_words.specs.Names.{ConditionNumber, MutexNumber, Tick, Word}
use Rattle.ptk_words.specs.declared.threads.Thread.{Thread}
use Rattle.ptk_words.specs.declared.threads.Phase.{Phase}
use Rattle.ptk_words.specs.declared.threads.Phase.TheVariants.{Normal, Unwinding, Ended}
use Rattle.ptk_words.specs.declared.threads.Wait.{Wait}
use Rattle.ptk_words.specs.declared.threads.Wait.TheVariants.{SleepWait, MutexWait, ConditionWait, RelockWait}

-- the thread does not unwind and has not ended
abbrev pub is_normal : Phase → Bool
is_normal Normal = true
is_normal Unwinding = false
is_normal Ended = false

-- the thread has ended (pthread_exit)
abbrev pub is_ended : Phase → Bool
is_ended Normal = false
is_ended Unwinding = false
is_ended Ended = true

-- the condition variable that a wait is on (pthread_cond_wait)
abbrev pub condition_of_wait : Option Wait → Option ConditionNumber
condition_of_wait (Some (ConditionWait c m deadline)) = Some c
condition_of_wait wait = None

-- the mutex that a wait is for; a condition wait is for none (pthread_mutex_lock, pthread_cond_wait)
abbrev pub mutex_of_wait : Option Wait → Option MutexNumber
mutex_of_wait (Some (MutexWait m deadline)) = Some m
mutex_of_wait (Some (RelockWait m reply)) = Some m
mutex_of_wait wait = None

-- the mutex that a condition wait names (pthread_cond_wait)
abbrev pub mutex_of_condition_wait : Option Wait → Option MutexNumber
mutex_of_condition_wait (Some (ConditionWait c m deadline)) = Some m
mutex_of_condition_wait wait = None

-- what a mutex's waiter is to be told: of a lock 0, of a re-lock its kept reply, none to a cancelled thread; no other wait is for a mutex (pthread_mutex_lock, pthread_cond_wait)
abbrev pub kept_reply : Option Wait → Option Word
kept_reply (Some (MutexWait m deadline)) = Some 0
kept_reply (Some (RelockWait m reply)) = reply
kept_reply wait = None

-- the deadline of a timed wait (clock_nanosleep, pthread_mutex_timedlock, pthread_cond_timedwait)
abbrev pub deadline_of_wait : Option Wait → Option Tick
deadline_of_wait (Some (SleepWait deadline)) = Some deadline
deadline_of_wait (Some (MutexWait m deadline)) = deadline
deadline_of_wait (Some (ConditionWait c m deadline)) = deadline
deadline_of_wait wait = None

-- the thread can be neither joined nor detached any more: it is detached or has a joiner (pthread_join, pthread_detach)
abbrev pub is_taken : Thread → Bool
is_taken thread = thread.is_detached || is_some thread.joiner

-- a thread that ends keeps its number and result until it is joined or detached; one that is detached or has a joiner leaves nothing (pthread_exit, pthread_join, pthread_detach)
abbrev pub left_at_end : Thread → Option Thread
left_at_end thread = if is_taken thread then None else Some (record thread { phase = Ended })

-- an ended thread that is detached leaves nothing, another one is detached (pthread_detach)
abbrev pub left_at_detach : Thread → Option Thread
left_at_detach thread = if is_ended thread.phase then None else Some (record thread { is_detached = true })
