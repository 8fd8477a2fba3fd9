-- The tables of all partitions, and of them one partition's threads, line and mutexes.
use Rattle.std.specs.Prelude.{IsSome, ◌≡◌, ℕ, ◌<◌, ◌≤◌, true, false, List, length, Option, Some, None, slice_set}
use Rattle.ptk_words.specs.Pools.{pool_get, pool_set, is_in, without}
use Rattle.ptk_words.specs.declared.TheConstants.{COUNT_LIMIT}
use Rattle.ptk_words.specs.Parts.{part_of}
use Rattle.ptk_words_model.specs.State.{Mutex, Locks}
use Rattle.ptk_words_model.specs.Priority.{thread_at, awaited, effective_priorities}
use Rattle.ptk_words_model.specs.Mutex.{mutex_at, waiters_of, count_of}
use Rattle.ptk_words_model.specs.Condition.{waiters_on}
use Rattle.ptk_threads.specs.Table.{ThreadTable}
use Rattle.ptk_roster.specs.Rosters.{Rostered}
use Rattle.ptk_roster.specs.Waiters.{condition_of}

-- what the mutex calls read and change of a partition, by the tables of all (own)
abbrev pub locks_by : ℕ → ThreadTable → List (List ℕ) → List (List (Option Mutex)) → Locks
locks_by p table lines pool = record { threads = part_of table.threads p; line = part_of lines p; mutexes = part_of pool p }

-- what the mutex calls read and change of a partition, by the roster (own)
abbrev pub locks_at : ℕ → Rostered → Locks
locks_at p roster = locks_by p roster.table roster.lines roster.mutexes

-- the threads of a partition, with the effective priorities that they then have as the stored ones (pthread_mutexattr_getprotocol)
abbrev pub with_threads : ℕ → Locks → ThreadTable → ThreadTable
with_threads p locks table =
    record table {
      threads = slice_set table.threads p locks.threads;
      stored = slice_set table.stored p (effective_priorities locks.threads locks.mutexes);
    }

-- the roster with these locks of a partition; all else is as it was (own)
abbrev pub put_locks : ℕ → Locks → Rostered → Rostered
put_locks p locks roster =
    record roster {
      table = with_threads p locks roster.table;
      lines = slice_set roster.lines p locks.line;
      mutexes = slice_set roster.mutexes p locks.mutexes;
    }

-- the roster with these locks of a partition; the stored priorities stay (own)
abbrev pub put_locks_alone : ℕ → Locks → Rostered → Rostered
put_locks_alone p locks roster =
    record roster {
      table = record roster.table { threads = slice_set roster.table.threads p locks.threads };
      lines = slice_set roster.lines p locks.line;
      mutexes = slice_set roster.mutexes p locks.mutexes;
    }

-- the roster in which the thread waits on the condition variable no more (pthread_cond_signal)
abbrev pub without_condition_waiter : ℕ → ℕ → ℕ → Rostered → Rostered
without_condition_waiter p t c roster =
    record roster {
      conditions = slice_set roster.conditions p (pool_set (part_of roster.conditions p) c (Some (condition_of (without t (waiters_on (pool_get (part_of roster.conditions p) c))))));
    }

-- every table has the partition (own)
pub record HasPartBy (p : ℕ) (table : ThreadTable) (lines : List (List ℕ)) (pool : List (List (Option Mutex))) : Type 0 where
  pub of_threads : p < length table.threads
  pub of_stored : p < length table.stored
  pub of_lines : p < length lines
  pub of_mutexes : p < length pool

-- every table of the roster has the partition (own)
abbrev pub HasPart : ℕ → Rostered → Type 0
HasPart p roster = HasPartBy p roster.table roster.lines roster.mutexes

-- who waits for mutex m: one of its waiters, whose wait names it, and which is not in the line (pthread_mutex_lock)
pub record IsWaiter (locks : Locks) (m k : ℕ) : Type 0 where
  pub waits : awaited (thread_at locks k) ≡ Some m
  pub out : is_in k locks.line ≡ false
  pub inside : is_in k (waiters_of (mutex_at locks m)) ≡ true

-- what mutexes are while they are used (own)
pub record AreLocked (locks : Locks) : Type 0 where
  -- every waiter waits for its mutex
  pub waiters : (m k : ℕ) → is_in k (waiters_of (mutex_at locks m)) ≡ true → IsWaiter locks m k
  -- no count is above the limit
  pub counts : (m : ℕ) → count_of (mutex_at locks m) ≤ COUNT_LIMIT

-- what the mutex calls need of the tables at a partition, and what they leave: its part is there and used as it should be, and its stored priorities are the effective ones (own)
pub record AreReadyBy (p : ℕ) (table : ThreadTable) (lines : List (List ℕ)) (pool : List (List (Option Mutex))) : Type 0 where
  pub part : HasPartBy p table lines pool
  pub locked : AreLocked (locks_by p table lines pool)
  pub stored : part_of table.stored p ≡ effective_priorities (part_of table.threads p) (part_of pool p)

-- what the mutex calls need of the roster at a partition, and what they leave (own)
abbrev pub AreReady : ℕ → Rostered → Type 0
AreReady p roster = AreReadyBy p roster.table roster.lines roster.mutexes

-- nobody, or one that waits for the mutex (pthread_mutex_unlock)
abbrev pub MayGet : Option ℕ → Locks → ℕ → Type 0
MayGet None locks m = Unit {0}
MayGet (Some t) locks m = IsWaiter locks m t

-- a thread that may begin to wait for a mutex: it is in use, not in the line, and waits for no mutex (pthread_mutex_lock)
pub record MayWait (locks : Locks) (t : ℕ) : Type 0 where
  pub used : IsSome (thread_at locks t)
  pub out : is_in t locks.line ≡ false
  pub awake : awaited (thread_at locks t) ≡ None
