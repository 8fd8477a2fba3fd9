-- Moves that take a mutex.
use Rattle.std.specs.Prelude.{◌≡◌, Option, Some, None}
use Rattle.ptk_words.specs.declared.mutexes.Owner.TheVariants.{Free}
use Rattle.ptk_words_model.specs.declared.LockMove.{LockMove}
use Rattle.ptk_words_model.specs.declared.LockMove.TheVariants.{Takes, Recovers, Counts, Waits, Refuses}
use Rattle.ptk_words_model.specs.State.{Mutex}

-- the number is of a mutex that is not locked (pthread_mutex_lock)
abbrev pub IsFree : Option Mutex → Type 0
IsFree None = ⊥
IsFree (Some m) = m.owner ≡ Free

-- a move that takes the mutex finds it free (pthread_mutex_lock)
abbrev pub MayTake : LockMove → Option Mutex → Type 0
MayTake Takes mutex = IsFree mutex
MayTake Recovers mutex = IsFree mutex
MayTake Counts mutex = Unit {0}
MayTake Waits mutex = Unit {0}
MayTake (Refuses e) mutex = Unit {0}
