-- Calls 20 to 26: mutexes (pthread_mutex_init to pthread_mutex_unlock, pthread_mutex_consistent).
use Rattle.std.specs.Prelude.{◌-◌, Bool, true, false, not, ◌&&◌, ◌||◌, ◌==◌, nat_le, if◌then◌else◌, Option, Some, None}
use Rattle.ptk_words.specs.Names.{MutexNumber, Tick, Word}
use Rattle.ptk_words.specs.Pools.{least_free}
use Rattle.ptk_words.specs.declared.TheConstants.{DESTROYED}
use Rattle.ptk_words.specs.declared.faults.Errno.TheVariants.{EPERM, ENOMEM, EBUSY, EINVAL, ETIMEDOUT}
use Rattle.ptk_words.specs.declared.mutexes.MutexKind.{MutexKind}
use Rattle.ptk_words.specs.declared.mutexes.MutexKind.TheVariants.{Normal, ErrorCheck, Recursive}
use Rattle.ptk_words.specs.declared.mutexes.Protocol.{Protocol}
use Rattle.ptk_words.specs.declared.mutexes.Protocol.TheVariants.{NoProtocol, Inherit, Protect}
use Rattle.ptk_words.specs.declared.mutexes.Soundness.{Soundness}
use Rattle.ptk_words.specs.declared.mutexes.Soundness.TheVariants.{Consistent, Inconsistent, Unrecoverable}
use Rattle.ptk_words.specs.declared.threads.Wait.TheVariants.{MutexWait}
use Rattle.ptk_words_model.specs.declared.LockMove.{LockMove}
use Rattle.ptk_words_model.specs.declared.LockMove.TheVariants.{Takes, Recovers, Counts, Waits, Refuses}
use Rattle.ptk_words_model.specs.State.{Mutex}
use Rattle.ptk_words_model.specs.Mutex.{mutex_at, new_mutex, is_free, owns, with_soundness, lock_move, trylock_move, after_move, move_reply, after_unlock}
use Rattle.ptk_words_model.specs.Condition.{names_mutex}
use Rattle.ptk_words_model.specs.Time.{Timespec, timespec_at, is_timespec, deadline_of}
use Rattle.ptk_words_model.specs.ThreadCreation.{is_priority}
use Rattle.ptk_words_model.specs.Calls.{with_stored, with_pool_mutex}
use Rattle.ptk_words_model.specs.Steps.{Row, ◌passed_to◌ as ◌>>=◌, ◌>>◌, registers, state, refuse◌when◌, refuse◌unless◌, ◌or_refuse◌, readable, mutex_named, change, change_locks, succeed, reply_if_any}

-- PTHREAD_MUTEX_NORMAL and DEFAULT 0, ERRORCHECK 1, RECURSIVE 2 (pthread_mutexattr_settype; own)
abbrev pub kind_numbered : Word → Option MutexKind
kind_numbered n = if n == 0 then Some Normal else if n == 1 then Some ErrorCheck else if n == 2 then Some Recursive else None

-- PTHREAD_MUTEX_ROBUST: the types from 4 on (pthread_mutexattr_setrobust; own)
abbrev pub is_robust_type : Word → Bool
is_robust_type n = nat_le 4 n

-- the kind of a type: 4, 5 and 6 are the robust ones of 0, 1 and 2 (pthread_mutexattr_settype, pthread_mutexattr_setrobust; own)
abbrev pub kind_of : Word → Option MutexKind
kind_of n = kind_numbered (if is_robust_type n then n - 4 else n)

-- PTHREAD_PRIO_NONE 0, INHERIT 1, PROTECT 2 with a ceiling (pthread_mutexattr_setprotocol; own)
abbrev pub protocol_of : Word → Word → Option Protocol
protocol_of n ceiling =
    if n == 0 then Some NoProtocol
    else if n == 1 then Some Inherit
    else if n == 2 && is_priority ceiling then Some (Protect ceiling)
    else None

-- a mutex of this type and protocol at the least free number; the old word is not looked at (pthread_mutex_init, EINVAL, ENOMEM; own)
abbrev pub mutex_init : Row
mutex_init = do
  i ← registers
  readable i.a0 4
  kind ← kind_of i.a1 or_refuse EINVAL
  protocol ← protocol_of i.a2 i.a3 or_refuse EINVAL
  s ← state
  m ← least_free s.mutexes or_refuse ENOMEM
  change (with_pool_mutex m (Some (new_mutex kind protocol (is_robust_type i.a1))))
  change (with_stored i.a0 m)
  succeed

-- a mutex that is not free (pthread_mutex_destroy)
abbrev pub is_locked : Option Mutex → Bool
is_locked None = false
is_locked (Some m) = not (is_free m.owner)

-- the mutex of a word is destroyed (pthread_mutex_destroy)
abbrev pub mutex_destroy : Row
mutex_destroy = do
  i ← registers
  readable i.a0 4
  m ← mutex_named i.a0
  s ← state
  refuse EBUSY when is_locked (mutex_at s.locks m) || names_mutex s.locks m
  change (with_pool_mutex m None)
  change (with_stored i.a0 DESTROYED)
  succeed

-- the caller makes its move on the mutex; where it waits, until the deadline if there is one (pthread_mutex_lock, pthread_mutex_timedlock)
abbrev pub make_move : LockMove → MutexNumber → Option Tick → Row
make_move move m deadline = do
  i ← registers
  change_locks (after_move move i.caller m (MutexWait m deadline))
  reply_if_any (move_reply move (Some 0))

-- the mutex of a word is locked (pthread_mutex_lock)
abbrev pub mutex_lock : Row
mutex_lock = do
  i ← registers
  readable i.a0 4
  m ← mutex_named i.a0
  s ← state
  make_move (lock_move s.locks i.caller (mutex_at s.locks m)) m None

-- the mutex of a word is locked without waiting (pthread_mutex_trylock)
abbrev pub mutex_trylock : Row
mutex_trylock = do
  i ← registers
  readable i.a0 4
  m ← mutex_named i.a0
  s ← state
  make_move (trylock_move s.locks i.caller (mutex_at s.locks m)) m None

-- a wait until this time, begun at the tick: refused for a bad time or a deadline already reached (pthread_mutex_timedlock, EINVAL, ETIMEDOUT)
abbrev pub timed_wait_move : Timespec → Tick → LockMove
timed_wait_move time tick =
    if not (is_timespec time) then Refuses EINVAL
    else if nat_le (deadline_of time) tick then Refuses ETIMEDOUT
    else Waits

-- the move of a timed lock: the time is looked at only where the lock would block (pthread_mutex_timedlock)
abbrev pub timed_move : LockMove → Timespec → Tick → LockMove
timed_move Takes time tick = Takes
timed_move Recovers time tick = Recovers
timed_move Counts time tick = Counts
timed_move Waits time tick = timed_wait_move time tick
timed_move (Refuses e) time tick = Refuses e

-- the move of lock, with a deadline; the time is read after the mutex of the word was set up, which may have written over it (pthread_mutex_timedlock; own)
abbrev pub mutex_timedlock : Row
mutex_timedlock = do
  i ← registers
  readable i.a0 4
  readable i.a1 12
  m ← mutex_named i.a0
  s ← state
  let time = timespec_at s.memory i.a1
  make_move (timed_move (lock_move s.locks i.caller (mutex_at s.locks m)) time i.tick) m (Some (deadline_of time))

-- the mutex of a word is unlocked (pthread_mutex_unlock)
abbrev pub mutex_unlock : Row
mutex_unlock = do
  i ← registers
  readable i.a0 4
  m ← mutex_named i.a0
  s ← state
  refuse EPERM unless owns i.caller (mutex_at s.locks m)
  change_locks (after_unlock m)
  succeed

-- an owner ended, and the mutex was not made consistent since (pthread_mutex_consistent)
abbrev pub is_inconsistent : Soundness → Bool
is_inconsistent Consistent = false
is_inconsistent Inconsistent = true
is_inconsistent Unrecoverable = false

-- a robust mutex that its owner may make consistent (pthread_mutex_consistent)
abbrev pub is_repairable : Option Mutex → Bool
is_repairable None = false
is_repairable (Some m) = m.is_robust && is_inconsistent m.soundness

-- the mutex of a word is made consistent (pthread_mutex_consistent)
abbrev pub mutex_consistent : Row
mutex_consistent = do
  i ← registers
  readable i.a0 4
  m ← mutex_named i.a0
  s ← state
  refuse EINVAL unless is_repairable (mutex_at s.locks m)
  refuse EPERM unless owns i.caller (mutex_at s.locks m)
  change_locks (with_soundness Consistent m)
  succeed
