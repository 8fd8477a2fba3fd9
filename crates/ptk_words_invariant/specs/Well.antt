-- What holds of a partition's state between moves.
use Rattle.std.specs.Prelude.{◌≡◌, ℕ, ◌<◌, ◌≤◌, true, false, List, length, nat_eq, Option, Some, None}
use Rattle.std.specs.List.{IsDistinct}
use Rattle.ptk_words.specs.Names.{Word}
use Rattle.ptk_words.specs.Pools.{numbered, is_in}
use Rattle.ptk_words.specs.declared.TheConstants.{CLEANUP_LIMIT}
use Rattle.ptk_words.specs.declared.sections.Limits.{Limits}
use Rattle.ptk_words.specs.declared.threads.Cleanup.{Cleanup}
use Rattle.ptk_words.specs.declared.threads.Wait.TheVariants.{InputWait, JoinWait}
use Rattle.ptk_words_model.specs.declared.Cancellation.{Cancellation}
use Rattle.ptk_words_model.specs.State.{Part, Keys}
use Rattle.ptk_words_model.specs.Priority.{thread_at}
use Rattle.ptk_words_model.specs.Mutex.{wait_of}
use Rattle.ptk_words_model.specs.Unwinding.{is_alive}
use Rattle.ptk_words.specs.Faults.{is_active}
use Rattle.ptk_words_sync_invariant.specs.Conditions.{AreConditions}
use Rattle.ptk_words_sync_invariant.specs.Locks.{is_ready, joiner_of, used_of, AreMutexes}

-- a thread's cleanup handlers, which have a limit (pthread_cleanup_push; own)
abbrev pub AreHandlers : Option (List Cleanup) → Type 0
AreHandlers None = Unit {0}
AreHandlers (Some cleanups) = length cleanups ≤ CLEANUP_LIMIT

-- a thread's values, one for each key of the pool (pthread_key_create)
abbrev pub AreValues : ℕ → Option (List Word) → Type 0
AreValues keys None = Unit {0}
AreValues keys (Some values) = length values ≡ keys

-- what the ends of threads are made of: each thread has a record of cancellation, handlers within their limit, a value for each key, and its rounds (XSH 2.9.5; pthread_key_create)
pub record AreEndings (limits : Limits) (cancellations : List Cancellation) (cleanups : List (List Cleanup)) (keys : Keys) : Type 0 where
  pub records : length cancellations ≡ limits.threads
  pub stacks : length cleanups ≡ limits.threads
  pub handlers : (t : ℕ) → AreHandlers (numbered cleanups t)
  pub destructors : length keys.destructors ≡ limits.keys
  pub rows : length keys.values ≡ limits.threads
  pub values : (t : ℕ) → AreValues limits.keys (numbered keys.values t)
  pub rounds : length keys.rounds ≡ limits.threads

-- the state is whole: its lists have their sizes, the running thread and those of the line are ready, none stands in two places, and waits agree with the waiters
pub record IsWell (limits : Limits) (s : Part) : Type 0 where
  pub memory : length s.memory ≡ limits.memory
  pub threads : length s.threads ≡ limits.threads
  pub mutexes : length s.mutexes ≡ limits.mutexes
  pub conditions : length s.conditions ≡ limits.conditions
  pub endings : AreEndings limits s.cancellations s.cleanups s.keys
  pub line_ready : (t : ℕ) → is_in t s.line ≡ true → is_ready (thread_at s.locks t) ≡ true
  pub line_distinct : IsDistinct nat_eq s.line
  pub running_ready : (t : ℕ) → s.running ≡ Some t → is_ready (thread_at s.locks t) ≡ true
  pub running_out : (t : ℕ) → s.running ≡ Some t → is_in t s.line ≡ false
  pub waiters_wait : (t : ℕ) → is_in t s.console.waiters ≡ true → wait_of (thread_at s.locks t) ≡ Some InputWait
  pub waiters_distinct : IsDistinct nat_eq s.console.waiters
  pub waits_listed : (t : ℕ) → wait_of (thread_at s.locks t) ≡ Some InputWait → is_in t s.console.waiters ≡ true
  pub joiners_wait : (t u : ℕ) → joiner_of (thread_at s.locks u) ≡ Some t → wait_of (thread_at s.locks t) ≡ Some (JoinWait u)
  pub joins_listed : (t u : ℕ) → wait_of (thread_at s.locks t) ≡ Some (JoinWait u) → joiner_of (thread_at s.locks u) ≡ Some t
  pub ended_wait : (t : ℕ) → is_alive (thread_at s.locks t) ≡ false → wait_of (thread_at s.locks t) ≡ None
  pub exclusion : AreMutexes s.threads s.mutexes
  pub conditional : AreConditions s.threads s.mutexes s.conditions
  pub used : (t : ℕ) → used_of (thread_at s.locks t) < limits.interval
  pub halted : is_active s.status ≡ false → s.running ≡ None
  pub ring : length s.console.ring ≤ limits.ring
  pub output : length s.console.output ≤ limits.output
