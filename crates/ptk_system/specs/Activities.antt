-- What a thread of a partition does (XSH 2.8.4).
use Rattle.std.specs.Prelude.{ℕ, Bool, Option, Some, None, if◌then◌else◌, option_and_then, option_map}
use Rattle.ptk_words.specs.Names.{MutexNumber, ThreadNumber}
use Rattle.ptk_words.specs.Threads.{is_ended, mutex_of_wait}
use Rattle.ptk_words.specs.declared.threads.Thread.{Thread}
use Rattle.ptk_words.specs.declared.threads.Wait.{Wait}
use Rattle.ptk_words.specs.declared.mutexes.Owner.{Owner}
use Rattle.ptk_words.specs.declared.mutexes.Owner.TheVariants as owner
use Rattle.ptk_words_model.specs.State.{Locks, Part}
use Rattle.ptk_words_model.specs.Mutex.{mutex_at}
use Rattle.ptk_words_model.specs.Priority.{thread_at}
use Rattle.ptk_words_model.specs.Schedule.{is_running}
use Rattle.ptk_words.specs.Faults.{is_active}
use Rattle.ptk_system.specs.declared.activity.Activity.{Activity}
use Rattle.ptk_system.specs.declared.activity.Activity.TheVariants.{Free, Running, Ready, Blocked, Ended, Halted}

-- of a thread that does not run and has not ended: blocked where it waits, else ready (XSH 2.8.4)
abbrev pub activity_of_wait : Option Wait → Activity
activity_of_wait None = Ready
activity_of_wait (Some wait) = Blocked wait

-- running where it is the running thread, else ended; of a partition that is not halted, else blocked or ready (XSH 2.8.4)
abbrev pub activity_of_thread : Bool → Bool → Thread → Activity
activity_of_thread is_active is_running thread =
    if is_running then Running else (if is_ended thread.phase then Ended else (if is_active then activity_of_wait thread.wait else Halted))

-- free where no thread has the number, else what the thread does (XSH 2.8.4)
abbrev pub activity_of_number : Bool → Bool → Option Thread → Activity
activity_of_number is_active is_running None = Free
activity_of_number is_active is_running (Some thread) = activity_of_thread is_active is_running thread

-- what the thread of a number does
abbrev pub activity_in : ℕ → Part → Activity
activity_in t s = activity_of_number (is_active s.status) (is_running t s.running) (thread_at s.locks t)

-- the mutex that a blocked thread waits for; None of any other, and of a condition wait (pthread_mutex_lock, pthread_cond_wait)
abbrev pub mutex_of_activity : Activity → Option MutexNumber
mutex_of_activity (Blocked wait) = mutex_of_wait (Some wait)
mutex_of_activity Free = None
mutex_of_activity Running = None
mutex_of_activity Ready = None
mutex_of_activity Ended = None
mutex_of_activity Halted = None

-- the owner, where it is a thread (pthread_mutex_lock)
abbrev pub thread_of_owner : Owner → Option ThreadNumber
thread_of_owner owner.Free = None
thread_of_owner owner.Abandoned = None
thread_of_owner (owner.OwnedBy u) = Some u

-- the thread that owns the mutex of a number, if one does (pthread_mutex_lock)
abbrev pub owner_thread : Locks → MutexNumber → Option ThreadNumber
owner_thread locks m = option_and_then thread_of_owner (option_map (λ mutex. mutex.owner) (mutex_at locks m))
