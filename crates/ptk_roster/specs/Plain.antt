-- Mutexes that change their owner with no change of priority, and nobody woken.
use Rattle.std.specs.Prelude.{Bool, true, false, not, ◌&&◌, ◌==◌, length, Option, Some, None}
use Rattle.ptk_words.specs.Names.{ThreadNumber}
use Rattle.ptk_words.specs.declared.mutexes.Soundness.{Soundness}
use Rattle.ptk_words.specs.declared.mutexes.Soundness.TheVariants.{Consistent, Inconsistent, Unrecoverable}
use Rattle.ptk_words_model.specs.State.{Mutex}
use Rattle.ptk_words_model.specs.Priority.{is_owner}
use Rattle.ptk_words_model.specs.Mutex.{is_free, is_raising}

-- the mutex is INHERIT or PROTECT; false of a free number (pthread_mutexattr_getprotocol)
abbrev pub is_raising_at : Option Mutex → Bool
is_raising_at None = false
is_raising_at (Some m) = is_raising m.protocol

-- no owner ended, or the mutex was made consistent since (pthread_mutex_consistent)
abbrev pub is_sound : Soundness → Bool
is_sound Consistent = true
is_sound Inconsistent = false
is_sound Unrecoverable = false

-- a sound mutex, neither INHERIT nor PROTECT (pthread_mutexattr_getprotocol, pthread_mutex_consistent)
abbrev pub is_plain : Mutex → Bool
is_plain m = not (is_raising m.protocol) && is_sound m.soundness

-- a lock takes the mutex, and no priority changes (pthread_mutex_lock)
abbrev pub is_takeable : Option Mutex → Bool
is_takeable None = false
is_takeable (Some m) = is_plain m && is_free m.owner

-- an unlock by the thread frees the mutex, wakes nobody and changes no priority (pthread_mutex_unlock)
abbrev pub is_releasable : ThreadNumber → Option Mutex → Bool
is_releasable t None = false
is_releasable t (Some m) = is_plain m && is_owner t m.owner && (m.count == 1) && (length m.waiters == 0)
