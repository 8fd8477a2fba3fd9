-- The threads, the line and the mutexes of a partition are whole, and so is what else holds of threads and mutexes, whatever that is.
use Rattle.std.specs.Prelude.{◌≡◌, ℕ, ◌<◌, false, List, Option, Some, None, option_map}
use Rattle.ptk_words.specs.Pools.{pool_get, pool_changed}
use Rattle.ptk_words.specs.declared.threads.Thread.{Thread}
use Rattle.ptk_words.proofs.Pools.{each_changed}
use Rattle.ptk_words_model.specs.State.{Mutex, Locks}
use Rattle.ptk_words_model.specs.Priority.{awaited, thread_at}
use Rattle.ptk_words_model.specs.Mutex.{mutex_at, with_mutex, wait_of}
use Rattle.ptk_words_model.specs.Unwinding.{is_alive}
use Rattle.ptk_words_sync_invariant.specs.Locks.{used_of, AreMutexes}
use Rattle.ptk_words_sync_invariant.specs.Conditions.{HasRoom}
use Rattle.ptk_words_sync_invariant.proofs.Lined.{AreLined}
use Rattle.ptk_words_sync_invariant.proofs.Threads.{IsWaking}
use Rattle.ptk_words_sync_invariant.proofs.Exclusion.{IsExclusive, IsServed, exclusive_at, mutexes_from, exclusion_changed}

-- ---- what else holds

-- a change of a mutex leaves room for the re-lock of each thread that had it (own)
abbrev pub IsRoomy : (Mutex → Mutex) → Type 0
IsRoomy f = (x : Mutex) (k : ℕ) → HasRoom k (Some x) → HasRoom k (Some (f x))

-- what else holds of threads and mutexes: it stays where a mutex changes with room and where a waiter of a mutex is woken, and by it an ended thread waits for nothing (own)
pub record Rest : Type 1 where
  pub Holds : List (Option Thread) → List (Option Mutex) → Type 0
  pub mutex : (m : ℕ) (f : Mutex → Mutex) (threads : List (Option Thread)) (mutexes : List (Option Mutex)) → IsRoomy f → Holds threads mutexes → Holds threads (pool_changed m f mutexes)
  pub woken : (t m : ℕ) (f : Thread → Thread) (threads : List (Option Thread)) (mutexes : List (Option Mutex)) → IsWaking f → awaited (pool_get threads t) ≡ Some m → Holds threads mutexes → Holds (pool_changed t f threads) mutexes
  pub ended : (t : ℕ) (threads : List (Option Thread)) (mutexes : List (Option Mutex)) → Holds threads mutexes → is_alive (pool_get threads t) ≡ false → wait_of (pool_get threads t) ≡ None

-- threads, line and mutexes are whole, with this rest (own)
pub record AreHeld (interval : ℕ) (running : Option ℕ) (rest : Rest) (locks : Locks) : Type 0 where
  pub lined : AreLined locks.threads locks.line running
  pub holds : rest.Holds locks.threads locks.mutexes
  pub exclusion : AreMutexes locks.threads locks.mutexes
  pub used : (t : ℕ) → used_of (thread_at locks t) < interval

-- they are whole, but that a free mutex may have waiters (own)
pub record AreHeldQueued (interval : ℕ) (running : Option ℕ) (rest : Rest) (locks : Locks) : Type 0 where
  pub lined : AreLined locks.threads locks.line running
  pub holds : rest.Holds locks.threads locks.mutexes
  pub queues : (m : ℕ) → IsExclusive locks.threads m (mutex_at locks m)
  pub used : (t : ℕ) → used_of (thread_at locks t) < interval

pub held_queued_from : (interval : ℕ) (running : Option ℕ) (rest : Rest) (locks : Locks) → AreHeld interval running rest locks → AreHeldQueued interval running rest locks
held_queued_from interval running rest locks are = record {
  lined = are.lined;
  holds = are.holds;
  queues = exclusive_at locks.threads locks.mutexes are.exclusion;
  used = are.used;
}

pub held_from : (interval : ℕ) (running : Option ℕ) (rest : Rest) (locks : Locks) → AreHeldQueued interval running rest locks → ((m : ℕ) → IsServed (mutex_at locks m)) → AreHeld interval running rest locks
held_from interval running rest locks queued served = record {
  lined = queued.lined;
  holds = queued.holds;
  exclusion = mutexes_from locks.threads locks.mutexes queued.queues served;
  used = queued.used;
}

-- ---- one mutex changed

pub held_queued_mutex : (interval m : ℕ) (running : Option ℕ) (rest : Rest) (f : Mutex → Mutex) (locks : Locks) → IsRoomy f → IsExclusive locks.threads m (option_map f (mutex_at locks m))
    → AreHeldQueued interval running rest locks → AreHeldQueued interval running rest (with_mutex m f locks)
held_queued_mutex interval m running rest f locks roomy own queued = record {
  lined = queued.lined;
  holds = rest.mutex m f locks.threads locks.mutexes roomy queued.holds;
  queues = each_changed (λ (n : ℕ) (mutex : Option Mutex). IsExclusive locks.threads n mutex) m f locks.mutexes own (λ n ne. queued.queues n);
  used = queued.used;
}

pub held_mutex : (interval m : ℕ) (running : Option ℕ) (rest : Rest) (f : Mutex → Mutex) (locks : Locks) → rest.Holds locks.threads (pool_changed m f locks.mutexes) → IsExclusive locks.threads m (option_map f (mutex_at locks m))
    → IsServed (option_map f (mutex_at locks m)) → AreHeld interval running rest locks → AreHeld interval running rest (with_mutex m f locks)
held_mutex interval m running rest f locks kept own served are = record {
  lined = are.lined;
  holds = kept;
  exclusion = exclusion_changed locks.threads locks.mutexes m f own served are.exclusion;
  used = are.used;
}
