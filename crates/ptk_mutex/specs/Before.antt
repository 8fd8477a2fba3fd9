-- Stored priorities that are the effective ones of before a thread's rise.
use Rattle.std.specs.Prelude.{◌≡◌, ℕ, ◌≤◌, List, Option, None}
use Rattle.ptk_words.specs.Names.{MutexNumber, Priority, ThreadNumber}
use Rattle.ptk_words.specs.Pools.{pool_changed}
use Rattle.ptk_words.specs.declared.threads.Thread.{Thread}
use Rattle.ptk_words.specs.declared.mutexes.Owner.TheVariants.{Free}
use Rattle.ptk_words_model.specs.State.{Mutex}
use Rattle.ptk_words_model.specs.Priority.{assigned_of, effective_priorities}
use Rattle.ptk_threads.specs.Table.{with_priority}

-- the thread waits for nothing (XSH 2.8.4)
abbrev pub awake : Thread → Thread
awake thread = record thread { wait = None }

-- the mutex is not locked (pthread_mutex_lock)
abbrev pub freed : Mutex → Mutex
freed mutex = record mutex { owner = Free }

-- the effective priorities, were thread t to wait for nothing (pthread_mutex_lock)
abbrev pub IsBeforeWait : ThreadNumber → List (Option Thread) → List (Option Mutex) → List Priority → Type 0
IsBeforeWait t threads mutexes stored = stored ≡ effective_priorities (pool_changed t awake threads) mutexes

-- the effective priorities, were mutex m free (pthread_mutex_lock)
abbrev pub IsBeforeTake : MutexNumber → List (Option Thread) → List (Option Mutex) → List Priority → Type 0
IsBeforeTake m threads mutexes stored = stored ≡ effective_priorities threads (pool_changed m freed mutexes)

-- the effective priorities, had thread t an assigned priority no greater than it has (pthread_setschedprio)
abbrev pub IsBeforeAssignment : ThreadNumber → List (Option Thread) → List (Option Mutex) → List Priority → Type 0
IsBeforeAssignment t threads mutexes stored =
    (before : ℕ) × (before ≤ assigned_of threads t) × (stored ≡ effective_priorities (pool_changed t (with_priority before) threads) mutexes)
