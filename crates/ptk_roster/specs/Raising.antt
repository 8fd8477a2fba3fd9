-- What changes no effective priority: a thread is raised by the ceilings of its PROTECT mutexes and by who waits for its INHERIT ones, and by no other mutex.
use Rattle.std.specs.Prelude.{◌≡◌, false, List, Option, Some, None}
use Rattle.ptk_words.specs.Names.{MutexNumber, ThreadNumber}
use Rattle.ptk_words.specs.Pools.{pool_get, pool_changed}
use Rattle.ptk_words.specs.declared.threads.Thread.{Thread}
use Rattle.ptk_words_model.specs.State.{Mutex}
use Rattle.ptk_words_model.specs.Priority.{awaited, effective_priorities}
use Rattle.ptk_roster.specs.Plain.{is_raising_at}

-- a change of a mutex that is neither INHERIT nor PROTECT, and stays so, keeps every effective priority, whoever owns it and waits for it before and after (pthread_mutexattr_getprotocol)
abbrev pub PlainRaisesNobody : List (Option Thread) → List (Option Mutex) → Type 0
PlainRaisesNobody threads mutexes =
    (m : MutexNumber) (f : Mutex → Mutex) → ((mutex : Mutex) → (f mutex).protocol ≡ mutex.protocol) → is_raising_at (pool_get mutexes m) ≡ false → effective_priorities threads (pool_changed m f mutexes) ≡ effective_priorities threads mutexes

-- a thread that waits for such a mutex, and then for nothing, keeps every effective priority, where its assigned one stays (pthread_mutexattr_getprotocol)
abbrev pub PlainWaitRaisesNobody : List (Option Thread) → List (Option Mutex) → Type 0
PlainWaitRaisesNobody threads mutexes =
    (m : MutexNumber) (t : ThreadNumber) (f : Thread → Thread) → ((thread : Thread) → (f thread).priority ≡ thread.priority) → ((thread : Thread) → (f thread).wait ≡ None) → awaited (pool_get threads t) ≡ Some m → is_raising_at (pool_get mutexes m) ≡ false
    → effective_priorities (pool_changed t f threads) mutexes ≡ effective_priorities threads mutexes

-- a change of any mutex that keeps its protocol and its owner keeps every effective priority (pthread_mutexattr_getprotocol)
abbrev pub SameOwnerRaisesAlike : List (Option Thread) → List (Option Mutex) → Type 0
SameOwnerRaisesAlike threads mutexes =
    (m : MutexNumber) (f : Mutex → Mutex) → ((mutex : Mutex) → (f mutex).protocol ≡ mutex.protocol) → ((mutex : Mutex) → (f mutex).owner ≡ mutex.owner) → effective_priorities threads (pool_changed m f mutexes) ≡ effective_priorities threads mutexes
