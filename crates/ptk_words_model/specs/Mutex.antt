-- Mutexes: what lock, trylock and unlock do, hand over, and what becomes of a thread's mutexes at its end (pthread_mutex_lock, pthread_mutex_timedlock, pthread_mutex_consistent).
use Rattle.std.specs.Prelude.{ℕ, ◌+◌, ◌-◌, Bool, true, false, ◌&&◌, List, [], ◌∷◌, ◌++◌, length, fold, ◌==◌, nat_lt, if◌then◌else◌, Option, Some, None, option_map, option_to_list}
use Rattle.std.specs.Fn.{iterate}
use Rattle.std.specs.List.{list_any}
use Rattle.ptk_words.specs.Names.{MutexNumber, Priority, ThreadNumber, Word}
use Rattle.ptk_words.specs.declared.TheConstants.{COUNT_LIMIT}
use Rattle.ptk_words.specs.Pools.{pool_get, pool_changed, numbers_of, without, first_of_greatest}
use Rattle.ptk_words.specs.Faults.{errno_number}
use Rattle.ptk_words.specs.declared.faults.Errno.TheVariants.{EAGAIN, EBUSY, EDEADLK, EINVAL, EOWNERDEAD, ENOTRECOVERABLE}
use Rattle.ptk_words.specs.declared.threads.Thread.{Thread}
use Rattle.ptk_words.specs.declared.threads.Wait.{Wait}
use Rattle.ptk_words.specs.declared.threads.Wait.TheVariants.{RelockWait}
pub use Rattle.ptk_words.specs.Threads.{kept_reply}
use Rattle.ptk_words.specs.declared.mutexes.MutexKind.{MutexKind}
use Rattle.ptk_words.specs.declared.mutexes.MutexKind.TheVariants.{Normal, ErrorCheck, Recursive}
use Rattle.ptk_words.specs.declared.mutexes.Protocol.{Protocol}
use Rattle.ptk_words.specs.declared.mutexes.Protocol.TheVariants.{NoProtocol, Inherit, Protect}
use Rattle.ptk_words.specs.declared.mutexes.Soundness.{Soundness}
use Rattle.ptk_words.specs.declared.mutexes.Soundness.TheVariants.{Consistent, Inconsistent, Unrecoverable}
use Rattle.ptk_words.specs.declared.mutexes.Owner.{Owner}
use Rattle.ptk_words.specs.declared.mutexes.Owner.TheVariants.{Free, Abandoned, OwnedBy}
use Rattle.ptk_words_model.specs.declared.LockMove.{LockMove}
use Rattle.ptk_words_model.specs.declared.LockMove.TheVariants.{Takes, Recovers, Counts, Waits, Refuses}
use Rattle.ptk_words_model.specs.State.{Mutex, Locks}
use Rattle.ptk_words_model.specs.Priority.{assigned_priority, effective_priority, is_owner}
use Rattle.ptk_words_model.specs.Schedule.{with_thread, woken_with, at_tail_with, after_wake}

-- ---- parts

-- the mutex of a number
abbrev pub mutex_at : Locks → MutexNumber → Option Mutex
mutex_at locks m = pool_get locks.mutexes m

-- the mutex of a number changed by f; a free number stays free
abbrev pub with_mutex : MutexNumber → (Mutex → Mutex) → Locks → Locks
with_mutex m f locks = record locks { mutexes = pool_changed m f locks.mutexes }

-- the waiters of a mutex (pthread_mutex_lock)
abbrev pub waiters_of : Option Mutex → List ThreadNumber
waiters_of None = []
waiters_of (Some m) = m.waiters

-- the soundness of what a mutex guards (pthread_mutex_consistent)
abbrev pub soundness_of : Option Mutex → Soundness
soundness_of None = Consistent
soundness_of (Some m) = m.soundness

-- the mutex with this soundness (pthread_mutex_consistent)
abbrev pub with_soundness : Soundness → MutexNumber → Locks → Locks
with_soundness soundness m locks = with_mutex m (λ mutex. record mutex { soundness = soundness }) locks

-- a new mutex, robust or not, which is free and consistent (pthread_mutex_init, pthread_mutexattr_setrobust)
abbrev pub new_mutex : MutexKind → Protocol → Bool → Mutex
new_mutex kind protocol is_robust =
    record {
      kind = kind;
      protocol = protocol;
      is_robust = is_robust;
      soundness = Consistent;
      owner = Free;
      count = 0;
      waiters = [];
    }

-- not locked (pthread_mutex_lock)
abbrev pub is_free : Owner → Bool
is_free Free = true
is_free Abandoned = false
is_free (OwnedBy t) = false

-- the thread owns the mutex (pthread_mutex_lock)
abbrev pub owns : ThreadNumber → Option Mutex → Bool
owns t None = false
owns t (Some m) = is_owner t m.owner

-- INHERIT or PROTECT (pthread_mutexattr_getprotocol)
abbrev pub is_raising : Protocol → Bool
is_raising NoProtocol = false
is_raising Inherit = true
is_raising (Protect ceiling) = true

-- the thread owns the mutex, which is INHERIT or PROTECT (pthread_mutexattr_getprotocol)
abbrev pub is_raising_for : ThreadNumber → Option Mutex → Bool
is_raising_for t None = false
is_raising_for t (Some m) = is_owner t m.owner && is_raising m.protocol

-- the thread owns an INHERIT or PROTECT mutex (pthread_mutexattr_getprotocol)
abbrev pub owns_raising : Locks → ThreadNumber → Bool
owns_raising locks t = list_any (is_raising_for t) locks.mutexes

-- ---- lock

-- the mutex is PROTECT, with a ceiling below the priority (pthread_mutex_lock, EINVAL)
abbrev pub is_above_ceiling : Priority → Protocol → Bool
is_above_ceiling priority NoProtocol = false
is_above_ceiling priority Inherit = false
is_above_ceiling priority (Protect ceiling) = nat_lt ceiling priority

-- the move begins a wait (pthread_mutex_lock)
abbrev pub is_waiting : LockMove → Bool
is_waiting Takes = false
is_waiting Recovers = false
is_waiting Counts = false
is_waiting Waits = true
is_waiting (Refuses e) = false

-- a recursive mutex counts up to a limit (pthread_mutex_lock, EAGAIN)
abbrev pub count_move : ℕ → LockMove
count_move count = if nat_lt count COUNT_LIMIT then Counts else Refuses EAGAIN

-- a mutex of one's own, by its type (pthread_mutex_lock)
abbrev pub own_lock_move : MutexKind → ℕ → LockMove
own_lock_move Normal count = Waits
own_lock_move ErrorCheck count = Refuses EDEADLK
own_lock_move Recursive count = count_move count

-- trylock of a mutex of one's own, by its type (pthread_mutex_trylock)
abbrev pub own_trylock_move : MutexKind → ℕ → LockMove
own_trylock_move Normal count = Refuses EBUSY
own_trylock_move ErrorCheck count = Refuses EBUSY
own_trylock_move Recursive count = count_move count

-- a free mutex, by its soundness: after a dead owner it is taken with notice, and once lost it can't be locked (pthread_mutex_lock, EOWNERDEAD, ENOTRECOVERABLE)
abbrev pub free_move : Soundness → LockMove
free_move Consistent = Takes
free_move Inconsistent = Recovers
free_move Unrecoverable = Refuses ENOTRECOVERABLE

-- the moves of a lock by the owner: of a free mutex, of one's own, of another's or nobody's (pthread_mutex_lock)
pub record OwnerMoves : Type 0 where
  pub of_free : LockMove
  pub of_own : LockMove
  pub of_another : LockMove

-- by the owner: a free mutex, one's own, another's or nobody's (pthread_mutex_lock)
abbrev pub owner_move : Owner → ThreadNumber → OwnerMoves → LockMove
owner_move Free t moves = moves.of_free
owner_move Abandoned t moves = moves.of_another
owner_move (OwnedBy u) t moves = if u == t then moves.of_own else moves.of_another

-- the move of lock; the ceiling is tested first (pthread_mutex_lock; own)
abbrev pub lock_move : Locks → ThreadNumber → Option Mutex → LockMove
lock_move locks t None = Refuses EINVAL
lock_move locks t (Some m) =
    if is_above_ceiling (assigned_priority locks t) m.protocol
    then Refuses EINVAL
    else owner_move m.owner t (record { of_free = free_move m.soundness; of_own = own_lock_move m.kind m.count; of_another = Waits })

-- the move of trylock; the ceiling is tested first (pthread_mutex_trylock; own)
abbrev pub trylock_move : Locks → ThreadNumber → Option Mutex → LockMove
trylock_move locks t None = Refuses EINVAL
trylock_move locks t (Some m) =
    if is_above_ceiling (assigned_priority locks t) m.protocol
    then Refuses EINVAL
    else owner_move m.owner t (record { of_free = free_move m.soundness; of_own = own_trylock_move m.kind m.count; of_another = Refuses EBUSY })

-- the thread blocks as the mutex's last waiter (pthread_mutex_lock)
abbrev pub after_wait : ThreadNumber → MutexNumber → Wait → Locks → Locks
after_wait t m wait locks =
    with_thread t (λ thread. record thread { wait = Some wait })
    (with_mutex m (λ mutex. record mutex { waiters = mutex.waiters ++ t ∷ [] }) locks)

-- the thread owns the mutex, counted once (pthread_mutex_lock)
abbrev pub after_take : ThreadNumber → MutexNumber → Locks → Locks
after_take t m locks = with_mutex m (λ mutex. record mutex { owner = OwnedBy t; count = 1 }) locks

-- the owner has locked the mutex once more (pthread_mutex_lock, PTHREAD_MUTEX_RECURSIVE)
abbrev pub after_count : MutexNumber → Locks → Locks
after_count m locks = with_mutex m (λ mutex. record mutex { count = mutex.count + 1 }) locks

-- the thread makes the move on the mutex; where it waits, this is its wait (pthread_mutex_lock)
abbrev pub after_move : LockMove → ThreadNumber → MutexNumber → Wait → Locks → Locks
after_move Takes t m wait locks = after_take t m locks
after_move Recovers t m wait locks = after_take t m locks
after_move Counts t m wait locks = after_count m locks
after_move Waits t m wait locks = after_wait t m wait locks
after_move (Refuses e) t m wait locks = locks

-- what the move tells a thread that is to be told this: with a dead owner's mutex EOWNERDEAD, of a refusal its number, and nothing yet where it waits; a cancelled waiter is told nothing (pthread_mutex_lock; own)
abbrev pub move_reply : LockMove → Option Word → Option Word
move_reply Takes reply = reply
move_reply Recovers reply = option_map (λ _. errno_number EOWNERDEAD) reply
move_reply Counts reply = reply
move_reply Waits reply = None
move_reply (Refuses e) reply = option_map (λ _. errno_number e) reply

-- ---- waiters that leave

-- the wait of a thread (XSH 2.8.4)
abbrev pub wait_of : Option Thread → Option Wait
wait_of None = None
wait_of (Some thread) = thread.wait

-- the waiter is woken, and told of this move what its wait kept (pthread_mutex_unlock)
abbrev pub handed : LockMove → Thread → Thread
handed move thread = woken_with (option_to_list (move_reply move (kept_reply thread.wait))) thread

-- the waiter of greatest effective priority, the earliest among equals (pthread_mutex_unlock; XSH 2.8.4; own)
abbrev pub heir : MutexNumber → Locks → Option ThreadNumber
heir m locks = first_of_greatest (effective_priority locks) (waiters_of (mutex_at locks m))

-- the thread has left the waiters of the mutex (pthread_mutex_timedlock)
abbrev pub without_mutex_waiter : ThreadNumber → MutexNumber → Locks → Locks
without_mutex_waiter t m locks = with_mutex m (λ mutex. record mutex { waiters = without t mutex.waiters }) locks

-- the waiter has left the mutex and is woken, with this move (pthread_mutex_unlock)
abbrev pub after_leave : LockMove → ThreadNumber → MutexNumber → Locks → Locks
after_leave move t m locks = at_tail_with (handed move) t (without_mutex_waiter t m locks)

-- ---- unlock

-- nobody owns the mutex, and it can be locked (pthread_mutex_unlock)
abbrev pub after_free : MutexNumber → Locks → Locks
after_free m locks = with_mutex m (λ mutex. record mutex { owner = Free; count = 0 }) locks

-- the mutex goes to the waiter, with count 1, and that thread is woken; without one it is free (pthread_mutex_unlock)
abbrev pub after_hand_over_to : Option ThreadNumber → MutexNumber → Locks → Locks
after_hand_over_to None m locks = after_free m locks
after_hand_over_to (Some t) m locks = after_leave (free_move (soundness_of (mutex_at locks m))) t m (after_take t m locks)

-- the mutex goes to its heir (pthread_mutex_unlock)
abbrev pub after_hand_over : MutexNumber → Locks → Locks
after_hand_over m locks = after_hand_over_to (heir m locks) m locks

-- the waiter, if there is one, leaves without the mutex (pthread_mutex_lock, ENOTRECOVERABLE)
abbrev pub after_refusal_to : Option ThreadNumber → MutexNumber → Locks → Locks
after_refusal_to None m locks = locks
after_refusal_to (Some t) m locks = after_leave (Refuses ENOTRECOVERABLE) t m locks

-- the waiter of greatest effective priority, the earliest among equals, leaves without the mutex (pthread_mutex_lock, ENOTRECOVERABLE; own)
abbrev pub after_refusal : MutexNumber → Locks → Locks
after_refusal m locks = after_refusal_to (heir m locks) m locks

-- every waiter leaves without the mutex, each choice in the state that the one before left (pthread_mutex_lock, ENOTRECOVERABLE; own)
abbrev pub after_refusals : MutexNumber → Locks → Locks
after_refusals m locks = iterate (after_refusal m) (length (waiters_of (mutex_at locks m))) locks

-- the mutex is free for good, and no waiter gets it (pthread_mutex_consistent, ENOTRECOVERABLE)
abbrev pub after_loss : MutexNumber → Locks → Locks
after_loss m locks = after_refusals m (with_soundness Unrecoverable m (after_free m locks))

-- the last unlock: the mutex is handed over, but one that was not made consistent is lost (pthread_mutex_unlock, pthread_mutex_consistent)
abbrev pub after_last_unlock : Soundness → MutexNumber → Locks → Locks
after_last_unlock Consistent m locks = after_hand_over m locks
after_last_unlock Inconsistent m locks = after_loss m locks
after_last_unlock Unrecoverable m locks = after_loss m locks

-- the count of a mutex (pthread_mutex_lock)
abbrev pub count_of : Option Mutex → ℕ
count_of None = 0
count_of (Some m) = m.count

-- a count above 1 goes down by 1, else this is the last unlock (pthread_mutex_unlock)
abbrev pub after_unlock : MutexNumber → Locks → Locks
after_unlock m locks =
    if nat_lt 1 (count_of (mutex_at locks m))
    then with_mutex m (λ mutex. record mutex { count = mutex.count - 1 }) locks
    else after_last_unlock (soundness_of (mutex_at locks m)) m locks

-- ---- re-lock

-- the move after a condition wait: only a mutex that can't be locked any more refuses it. One's own mutex is counted up, and the wait's reply stays, also where the mutex is inconsistent: its owner had EOWNERDEAD when it locked it (pthread_cond_wait, ENOTRECOVERABLE; own)
abbrev pub relock_move : ThreadNumber → Option Mutex → LockMove
relock_move t None = Waits
relock_move t (Some m) = owner_move m.owner t (record { of_free = free_move m.soundness; of_own = Counts; of_another = Waits })

-- the blocked thread waits for the mutex, or else makes the move and is woken, told of the move what it is to be told (pthread_cond_wait; own)
abbrev pub after_relock_move : LockMove → ThreadNumber → MutexNumber → Option Word → Locks → Locks
after_relock_move Waits t m reply locks = after_wait t m (RelockWait m reply) locks
after_relock_move move t m reply locks = after_wake t (option_to_list (move_reply move reply)) (after_move move t m (RelockWait m reply) locks)

-- the blocked thread re-locks the mutex (pthread_cond_wait; own)
abbrev pub after_relock : ThreadNumber → MutexNumber → Option Word → Locks → Locks
after_relock t m reply locks = after_relock_move (relock_move t (mutex_at locks m)) t m reply locks

-- ---- the end of an owner

-- a robust mutex is inconsistent and goes to its heir; without one it is free (pthread_mutexattr_setrobust; pthread_mutex_lock, EOWNERDEAD)
abbrev pub after_bequest : MutexNumber → Locks → Locks
after_bequest m locks = after_hand_over m (with_soundness Inconsistent m locks)

-- a mutex that is not robust stays locked, and nobody owns it (own)
abbrev pub after_abandonment : MutexNumber → Locks → Locks
after_abandonment m locks = with_mutex m (λ mutex. record mutex { owner = Abandoned }) locks

-- what the end of the thread makes of a mutex (pthread_mutexattr_setrobust)
abbrev pub after_mutex_end : ThreadNumber → Option Mutex → MutexNumber → Locks → Locks
after_mutex_end t None m locks = locks
after_mutex_end t (Some mutex) m locks =
    if is_owner t mutex.owner
    then (if mutex.is_robust then after_bequest m locks else after_abandonment m locks)
    else locks

-- what the end of the thread makes of all mutexes, in ascending number, each in the state that the one before left (pthread_mutexattr_setrobust; own)
abbrev pub after_owner_end : ThreadNumber → Locks → Locks
after_owner_end t locks = fold (λ out m. after_mutex_end t (mutex_at out m) m out) locks (numbers_of locks.mutexes)
