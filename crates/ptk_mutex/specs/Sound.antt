-- What the calls on mutexes and condition variables ask of the roster, and each of them keeps.
use Rattle.std.specs.Prelude.{IsSome, ◌≡◌, ℕ, ◌<◌, true, false, List, length, Option, Some, None, slice_set}
use Rattle.ptk_words.specs.Pools.{is_in}
use Rattle.ptk_words.specs.Parts.{part_of}
use Rattle.ptk_words_model.specs.State.{Condition, Locks, Mutex, Syncs}
use Rattle.ptk_words_model.specs.Priority.{thread_at}
use Rattle.ptk_words_model.specs.Mutex.{mutex_at, wait_of}
use Rattle.ptk_words_model.specs.Condition.{condition_waiters, mutex_of_condition_wait}
use Rattle.ptk_words_sync_invariant.specs.Conditions.{HasRoom}
use Rattle.ptk_words.specs.Threads.{condition_of_wait}
use Rattle.ptk_threads.specs.Table.{ThreadTable}
use Rattle.ptk_roster.specs.Rosters.{Rostered}
use Rattle.ptk_mutex.specs.Tables.{locks_by, put_locks, AreReadyBy}

-- what the condition calls read and change of a partition (own)
abbrev pub syncs_by : ℕ → ThreadTable → List (List ℕ) → List (List (Option Mutex)) → List (List (Option Condition)) → Syncs
syncs_by p table lines mutexes conditions = record { locks = locks_by p table lines mutexes; conditions = part_of conditions p }

-- what the condition calls read and change of a partition, by the roster (own)
abbrev pub syncs_at : ℕ → Rostered → Syncs
syncs_at p roster = syncs_by p roster.table roster.lines roster.mutexes roster.conditions

-- the roster with these threads, line, mutexes and condition variables of a partition; all else is as it was (own)
abbrev pub put_syncs : ℕ → Syncs → Rostered → Rostered
put_syncs p syncs roster = record (put_locks p syncs.locks roster) { conditions = slice_set roster.conditions p syncs.conditions }

-- who waits on condition variable c: a thread whose wait is on it, which is not in the line, and whose re-lock has room (pthread_cond_wait)
pub record IsOnCondition (locks : Locks) (c k : ℕ) : Type 0 where
  pub waits : condition_of_wait (wait_of (thread_at locks k)) ≡ Some c
  pub out : is_in k locks.line ≡ false
  -- since its wait unlocked the mutex once
  pub room : (m : ℕ) → mutex_of_condition_wait (wait_of (thread_at locks k)) ≡ Some m → HasRoom k (mutex_at locks m)

-- every waiter waits on its condition variable (own)
pub record AreWaiting (syncs : Syncs) : Type 0 where
  pub waiters : (c k : ℕ) → is_in k (condition_waiters syncs c) ≡ true → IsOnCondition syncs.locks c k

-- what the condition calls need of the tables at a partition, and what they leave: what the mutex calls need, and waiters that wait (own)
pub record AreSyncedBy (p : ℕ) (table : ThreadTable) (lines : List (List ℕ)) (mutexes : List (List (Option Mutex))) (conditions : List (List (Option Condition))) : Type 0 where
  pub ready : AreReadyBy p table lines mutexes
  pub of_conditions : p < length conditions
  pub waiting : AreWaiting (syncs_by p table lines mutexes conditions)

-- what the condition calls need of the roster at a partition, and what they leave (own)
abbrev pub AreSynced : ℕ → Rostered → Type 0
AreSynced p roster = AreSyncedBy p roster.table roster.lines roster.mutexes roster.conditions

-- each partition is as all calls need it, and its stored priorities are the effective ones (own)
pub record IsSound (roster : Rostered) : Type 0 where
  pub synced : (p : ℕ) → p < length roster.table.threads → AreSynced p roster

-- a thread that may begin to wait on a condition variable: it is in use, not in the line, and waits for nothing (pthread_cond_wait)
pub record IsAwake (locks : Locks) (t : ℕ) : Type 0 where
  pub used : IsSome (thread_at locks t)
  pub out : is_in t locks.line ≡ false
  pub awake : wait_of (thread_at locks t) ≡ None
