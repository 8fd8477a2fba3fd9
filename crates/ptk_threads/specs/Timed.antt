-- The deadlines of the waits of threads, which are kept beside the slots.
use Rattle.std.specs.Prelude.{◌≡◌, ℕ, List, map, slice_set, Option}
use Rattle.ptk_words.specs.Names.{Tick}
use Rattle.ptk_words.specs.Pools.{pool_set}
use Rattle.ptk_words.specs.Parts.{part_of}
use Rattle.ptk_words.specs.declared.threads.Thread.{Thread}
use Rattle.ptk_clock.specs.Mutex.{wait_of}
use Rattle.ptk_words.specs.Threads.{deadline_of_wait}
use Rattle.ptk_threads.specs.Table.{IsTable}
use Rattle.ptk_threads.specs.declared.change.DeadlineChange.{DeadlineChange}
use Rattle.ptk_threads.specs.declared.change.DeadlineChange.TheVariants.{Stays, Becomes}

-- by thread number: the deadline of its wait, of a thread that is in a timed one (clock_nanosleep, pthread_mutex_timedlock, pthread_cond_timedwait)
abbrev pub deadlines_in : List (Option Thread) → List (Option Tick)
deadlines_in threads = map (λ thread. deadline_of_wait (wait_of thread)) threads

-- each kept deadline is that of its thread's wait, for every partition
pub record AreTimed (deadlines : List (List (Option Tick))) (threads : List (List (Option Thread))) : Type 0 where
  pub all : deadlines ≡ map deadlines_in threads

-- what always holds of the threads, their stored priorities and the kept deadlines (own)
pub record IsKept (threads : List (List (Option Thread))) (stored : List (List ℕ)) (deadlines : List (List (Option Tick))) : Type 0 where
  pub table : IsTable threads stored
  pub timed : AreTimed deadlines threads

-- the wait of a thread stays where f changes the thread, or it has this deadline then, or none (own)
abbrev pub TellsDeadline : DeadlineChange → (Thread → Thread) → Type 0
TellsDeadline Stays f = (thread : Thread) → (f thread).wait ≡ thread.wait
TellsDeadline (Becomes deadline) f = (thread : Thread) → deadline_of_wait (f thread).wait ≡ deadline

-- by partition and then by number: the kept deadlines, where that of one number stays or becomes this one
abbrev pub with_deadline : ℕ → ℕ → DeadlineChange → List (List (Option Tick)) → List (List (Option Tick))
with_deadline p k Stays deadlines = deadlines
with_deadline p k (Becomes deadline) deadlines = slice_set deadlines p (pool_set (part_of deadlines p) k deadline)
