-- Stored priorities that are the effective ones of before a rise, by what raised the thread.
use Rattle.std.specs.Prelude.{◌≡◌, true, List, Option, IsSome}
use Rattle.ptk_words.specs.Names.{Priority}
use Rattle.ptk_words.specs.Pools.{pool_get}
use Rattle.ptk_words.specs.declared.threads.Thread.{Thread}
use Rattle.ptk_words_model.specs.State.{Mutex}
use Rattle.ptk_words_model.specs.Mutex.{owns}
use Rattle.ptk_mutex.specs.declared.rise.Rise.{Rise}
use Rattle.ptk_mutex.specs.declared.rise.Rise.TheVariants.{Take, Assignment}
use Rattle.ptk_mutex.specs.Before.{IsBeforeTake, IsBeforeAssignment}

-- the effective priorities of before the rise; a thread that took a mutex is in use and owns it (pthread_mutexattr_getprotocol)
abbrev pub IsBefore : Rise → List (Option Thread) → List (Option Mutex) → List Priority → Type 0
IsBefore (Take t m) threads mutexes stored = IsSome (pool_get threads t) × (owns t (pool_get mutexes m) ≡ true) × IsBeforeTake m threads mutexes stored
IsBefore (Assignment t) threads mutexes stored = IsBeforeAssignment t threads mutexes stored
