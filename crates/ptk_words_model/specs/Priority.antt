-- Effective priorities, found by looking through all threads (XSH 2.8.4; pthread_mutexattr_getprotocol).
use Rattle.std.specs.Prelude.{◌≡◌, ◌≤◌, ℕ, Bool, false, List, fold, length, map, max, ◌==◌, if◌then◌else◌, Option, Some, None, option_map, option_and_then, unwrap_or, IsSome}
use Rattle.ptk_words.specs.Names.{MutexNumber, Priority, ThreadNumber}
use Rattle.ptk_words.specs.Pools.{pool_get, numbers_of}
use Rattle.ptk_words.specs.Threads.{mutex_of_wait}
use Rattle.ptk_words.specs.declared.threads.Thread.{Thread}
use Rattle.ptk_words.specs.declared.mutexes.Protocol.{Protocol}
use Rattle.ptk_words.specs.declared.mutexes.Protocol.TheVariants.{NoProtocol, Inherit, Protect}
use Rattle.ptk_words.specs.declared.mutexes.Owner.{Owner}
use Rattle.ptk_words.specs.declared.mutexes.Owner.TheVariants.{Free, Abandoned, OwnedBy}
use Rattle.ptk_words_model.specs.State.{Mutex, Locks}
use Rattle.ptk_words_model.specs.Chain.{Leads, greatest_leading}

-- the thread of a number
abbrev pub thread_at : Locks → ThreadNumber → Option Thread
thread_at locks t = pool_get locks.threads t

-- the assigned priority of a thread, 0 of a free number (XSH 2.8.4)
abbrev pub assigned_of : List (Option Thread) → ThreadNumber → Priority
assigned_of threads t = unwrap_or (option_map (λ thread. thread.priority) (pool_get threads t)) 0

-- the assigned priority of a thread of these locks (XSH 2.8.4)
abbrev pub assigned_priority : Locks → ThreadNumber → Priority
assigned_priority locks t = assigned_of locks.threads t

-- the thread is the owner (pthread_mutex_lock)
abbrev pub is_owner : ThreadNumber → Owner → Bool
is_owner t Free = false
is_owner t Abandoned = false
is_owner t (OwnedBy u) = u == t

-- the ceiling of a PROTECT mutex, 0 of any other (pthread_mutexattr_getprioceiling)
abbrev pub ceiling_of : Protocol → Priority
ceiling_of NoProtocol = 0
ceiling_of Inherit = 0
ceiling_of (Protect ceiling) = ceiling

-- the ceiling that a mutex gives the thread, 0 of one that it does not own (pthread_mutexattr_getprotocol)
abbrev pub ceiling_for : ThreadNumber → Option Mutex → Priority
ceiling_for t None = 0
ceiling_for t (Some m) = if is_owner t m.owner then ceiling_of m.protocol else 0

-- held priority: the greatest of the assigned priority and the ceilings of the PROTECT mutexes that the thread owns (pthread_mutexattr_getprotocol)
abbrev pub held_of : List (Option Thread) → List (Option Mutex) → ThreadNumber → Priority
held_of threads mutexes t = fold (λ most m. max most (ceiling_for t m)) (assigned_of threads t) mutexes

-- the mutex that a thread waits for (pthread_mutex_lock, pthread_cond_wait)
abbrev pub awaited : Option Thread → Option MutexNumber
awaited None = None
awaited (Some thread) = mutex_of_wait thread.wait

-- the owner of an INHERIT mutex, where it is a thread (pthread_mutexattr_getprotocol)
abbrev pub inheritor : Protocol → Owner → Option ThreadNumber
inheritor NoProtocol owner = None
inheritor (Protect ceiling) owner = None
inheritor Inherit Free = None
inheritor Inherit Abandoned = None
inheritor Inherit (OwnedBy u) = Some u

-- the owner of an INHERIT mutex of the pool, where it is a thread (pthread_mutexattr_getprotocol)
abbrev pub inheritor_of : Option Mutex → Option ThreadNumber
inheritor_of None = None
inheritor_of (Some m) = inheritor m.protocol m.owner

-- the next thread in a chain: the owner of the INHERIT mutex that the thread waits for (pthread_mutexattr_getprotocol)
abbrev pub next_in_chain : List (Option Thread) → List (Option Mutex) → ThreadNumber → Option ThreadNumber
next_in_chain threads mutexes t = option_and_then (λ m. inheritor_of (pool_get mutexes m)) (awaited (pool_get threads t))

-- effective priority: the greatest held priority of any thread whose chain holds t (pthread_mutexattr_getprotocol)
abbrev pub effective_of : List (Option Thread) → List (Option Mutex) → ThreadNumber → Priority
effective_of threads mutexes t = greatest_leading (length threads) (next_in_chain threads mutexes) (held_of threads mutexes) t

-- the effective priority of a thread of these locks (pthread_mutexattr_getprotocol)
abbrev pub effective_priority : Locks → ThreadNumber → Priority
effective_priority locks t = effective_of locks.threads locks.mutexes t

-- the effective priority of each number, in order
abbrev pub effective_priorities : List (Option Thread) → List (Option Mutex) → List Priority
effective_priorities threads mutexes = map (effective_of threads mutexes) (numbers_of threads)

-- n is the greatest held priority of the threads whose chain holds t (pthread_mutexattr_getprotocol)
pub record IsEffectivePriority (threads : List (Option Thread)) (mutexes : List (Option Mutex)) (t n : ℕ) : Type 0 where
  pub greatest : (u : ℕ) → IsSome (pool_get threads u) → Leads (next_in_chain threads mutexes) u t → held_of threads mutexes u ≤ n
  pub reached : (u : ℕ) × IsSome (pool_get threads u) × Leads (next_in_chain threads mutexes) u t × (held_of threads mutexes u ≡ n)
