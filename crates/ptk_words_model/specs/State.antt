-- The state of one partition, by its parts. Threads, mutexes, condition variables and keys are entries of pools, numbered from 1.
use Rattle.std.specs.Prelude.{ℕ, Bool, List, [], Option, None}
use Rattle.ptk_words.specs.Names.{Byte, Pointer, ThreadNumber, Tick, Ticks, Word}
use Rattle.ptk_words.specs.Pools.{pool_update}
use Rattle.ptk_words.specs.declared.threads.Thread.{Thread}
use Rattle.ptk_words.specs.declared.threads.Cleanup.{Cleanup}
use Rattle.ptk_words.specs.declared.mutexes.MutexKind.{MutexKind}
use Rattle.ptk_words.specs.declared.mutexes.Protocol.{Protocol}
use Rattle.ptk_words.specs.declared.mutexes.Soundness.{Soundness}
use Rattle.ptk_words.specs.declared.mutexes.Owner.{Owner}
use Rattle.ptk_words.specs.declared.sections.Arrival.{Arrival}
use Rattle.ptk_words.specs.declared.sections.Entry.{Entry}
use Rattle.ptk_words.specs.declared.faults.Status.{Status}
use Rattle.ptk_words_model.specs.declared.Cancellation.{Cancellation}
use Rattle.ptk_words_model.specs.declared.Rounds.{Rounds}

-- ---- mutexes and condition variables

-- a mutex, its waiters in order of arrival; a robust one may be left inconsistent or unrecoverable (pthread_mutex_lock, pthread_mutexattr_setrobust)
pub record Mutex : Type 0 where
  pub kind : MutexKind
  pub protocol : Protocol
  pub is_robust : Bool
  pub soundness : Soundness
  pub owner : Owner
  pub count : ℕ
  pub waiters : List ThreadNumber

-- a condition variable, its waiters in order of arrival (pthread_cond_wait)
pub record Condition : Type 0 where
  pub waiters : List ThreadNumber

-- the threads, the line of those that are ready, and the mutexes: what the mutex calls read and change (XSH 2.8.4)
pub record Locks : Type 0 where
  pub threads : List (Option Thread)
  pub line : List ThreadNumber
  pub mutexes : List (Option Mutex)

-- threads and mutexes with nobody in the line, on which no priority and no move of a lock depends (own)
abbrev pub locks_of : List (Option Thread) → List (Option Mutex) → Locks
locks_of threads mutexes = record { threads = threads; line = []; mutexes = mutexes }

-- threads, line, mutexes and condition variables: what the condition calls read and change (pthread_cond_wait)
pub record Syncs : Type 0 where
  pub locks : Locks
  pub open locks use *
  pub conditions : List (Option Condition)

-- ---- keys and console

-- the destructors of the keys in use, 0 for none, and by thread number its values by key and how far its destructor calls are (pthread_key_create)
pub record Keys : Type 0 where
  pub destructors : List (Option Pointer)
  pub values : List (List Word)
  pub rounds : List Rounds

-- the console: input still to come, the ring, how many bytes were lost, the output, and the waiters in order of arrival (own)
pub record Console : Type 0 where
  pub coming : List Arrival
  pub ring : List Byte
  pub dropped : ℕ
  pub output : List Byte
  pub waiters : List ThreadNumber

-- ---- the partition

-- what the kernel keeps of a partition: every part of it is its own. Cancellation, cleanup handlers and key values are lists beside the threads, by thread number: a number that is freed keeps its entries, and a new thread of that number begins with new ones (own)
pub record Part : Type 0 where
  pub memory : List Byte
  pub syncs : Syncs
  pub open syncs use *
  pub running : Option ThreadNumber
  -- by thread number: what it keeps of cancellation, and its cleanup handlers, the last pushed first
  pub cancellations : List Cancellation
  pub cleanups : List (List Cleanup)
  pub keys : Keys
  pub console : Console
  pub status : Status
  -- the last step, if there was one
  pub last : Option Entry

-- what the system adds: the tick of the next decision, if any, the steps, the lost ticks, and the last steps, oldest first
pub record Account : Type 0 where
  pub next : Option Tick
  pub steps : ℕ
  pub lost : Ticks
  pub trace : List Entry

-- the state of a partition
pub record State : Type 0 where
  pub part : Part
  pub account : Account

-- ---- one part of the state changed

-- the threads, the line or the mutexes
abbrev pub with_locks : (Locks → Locks) → Part → Part
with_locks f s = record s { syncs = record (s.syncs) { locks = f s.locks } }

-- the threads, the line, the mutexes or the condition variables
abbrev pub with_syncs : (Syncs → Syncs) → Part → Part
with_syncs f s = record s { syncs = f s.syncs }

-- what one thread keeps of cancellation
abbrev pub with_cancellation : ThreadNumber → (Cancellation → Cancellation) → Part → Part
with_cancellation t f s = record s { cancellations = pool_update s.cancellations t f }

-- the cleanup handlers of one thread
abbrev pub with_cleanups : ThreadNumber → (List Cleanup → List Cleanup) → Part → Part
with_cleanups t f s = record s { cleanups = pool_update s.cleanups t f }

-- the keys
abbrev pub with_keys : (Keys → Keys) → Part → Part
with_keys f s = record s { keys = f s.keys }

-- the console
abbrev pub with_console : (Console → Console) → Part → Part
with_console f s = record s { console = f s.console }

-- a halted partition has no running thread (own)
abbrev pub with_halt : Status → Part → Part
with_halt status s = record s { status = status; running = None }
