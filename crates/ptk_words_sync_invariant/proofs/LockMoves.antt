-- Which moves a lock, a trylock, a timed lock and a re-lock make of a mutex.
use Rattle.std.proofs.Common.{◌≡◌, ℕ, ◌<◌, Bool, true, false, not, refl}
use Rattle.std.specs.Prelude.{IsSome, Option, Some, None, nat_lt, nat_le, ◌==◌, if◌then◌else◌}
use Rattle.std.proofs.lemmas.Bool.{false≢true, ltb-true}
use Rattle.ptk_words.specs.declared.TheConstants.{COUNT_LIMIT}
use Rattle.ptk_words.specs.declared.faults.Errno.TheVariants.{EAGAIN, EBUSY, EINVAL, ETIMEDOUT}
use Rattle.ptk_words.specs.declared.mutexes.MutexKind.{MutexKind}
use Rattle.ptk_words.specs.declared.mutexes.MutexKind.TheVariants.{Normal, ErrorCheck, Recursive}
use Rattle.ptk_words.specs.declared.mutexes.Soundness.{Soundness}
use Rattle.ptk_words.specs.declared.mutexes.Soundness.TheVariants.{Consistent, Inconsistent, Unrecoverable}
use Rattle.ptk_words.specs.declared.mutexes.Owner.{Owner}
use Rattle.ptk_words.specs.declared.mutexes.Owner.TheVariants.{Free, Abandoned, OwnedBy}
use Rattle.ptk_words_model.specs.declared.LockMove.{LockMove}
use Rattle.ptk_words_model.specs.declared.LockMove.TheVariants.{Takes, Recovers, Counts, Waits, Refuses}
use Rattle.ptk_words_model.specs.State.{Mutex, Locks}
use Rattle.ptk_words_model.specs.Priority.{assigned_priority, is_owner}
use Rattle.ptk_words_model.specs.Time.{Timespec, is_timespec, deadline_of}
use Rattle.ptk_words_model.specs.Mutex.{count_of, owns, is_free, is_above_ceiling, OwnerMoves, own_lock_move, own_trylock_move, free_move, owner_move, lock_move, trylock_move, relock_move}
use Rattle.ptk_words_model.specs.MutexCalls.{is_locked, timed_move}
use Rattle.ptk_words_sync_invariant.specs.Conditions.{HasRoom}
use Rattle.ptk_words_sync_invariant.proofs.Rooms.{room_owner}

-- the thread can make the move on the mutex: its own count goes up below the limit, and what is waited for is locked (own)
abbrev pub MayMake : LockMove → ℕ → Option Mutex → Type 0
MayMake Takes t mutex = Unit {0}
MayMake Recovers t mutex = Unit {0}
MayMake Counts t mutex = (count_of mutex < COUNT_LIMIT) × (owns t mutex ≡ true)
MayMake Waits t mutex = is_locked mutex ≡ true
MayMake (Refuses e) t mutex = Unit {0}

may_count : (t : ℕ) (x : Mutex) (b : Bool) → owns t (Some x) ≡ true → nat_lt x.count COUNT_LIMIT ≡ b → MayMake (if b then Counts else Refuses EAGAIN) t (Some x)
may_count t x true own e = (ltb-true x.count COUNT_LIMIT e, own)
may_count t x false own e = tt

may_free : (soundness : Soundness) (t : ℕ) (mutex : Option Mutex) → MayMake (free_move soundness) t mutex
may_free Consistent t mutex = tt
may_free Inconsistent t mutex = tt
may_free Unrecoverable t mutex = tt

may_lock_own : (kind : MutexKind) (t : ℕ) (x : Mutex) → owns t (Some x) ≡ true → is_locked (Some x) ≡ true → MayMake (own_lock_move kind x.count) t (Some x)
may_lock_own Normal t x own locked = locked
may_lock_own ErrorCheck t x own locked = tt
may_lock_own Recursive t x own locked = may_count t x (nat_lt x.count COUNT_LIMIT) own refl

may_trylock_own : (kind : MutexKind) (t : ℕ) (x : Mutex) → owns t (Some x) ≡ true → MayMake (own_trylock_move kind x.count) t (Some x)
may_trylock_own Normal t x own = tt
may_trylock_own ErrorCheck t x own = tt
may_trylock_own Recursive t x own = may_count t x (nat_lt x.count COUNT_LIMIT) own refl

may_either : (b : Bool) (t : ℕ) (left right : LockMove) (mutex : Option Mutex) → (b ≡ true → MayMake left t mutex) → MayMake right t mutex → MayMake (if b then left else right) t mutex
may_either true t left right mutex first second = first refl
may_either false t left right mutex first second = second

-- the move of an owner's mutex, by the owner (own)
may_owner : (owner : Owner) (t : ℕ) (moves : OwnerMoves) (mutex : Option Mutex) → (not (is_free owner) ≡ true → is_locked mutex ≡ true) → (is_owner t owner ≡ true → owns t mutex ≡ true) → MayMake moves.of_free t mutex
    → (owns t mutex ≡ true → is_locked mutex ≡ true → MayMake moves.of_own t mutex) → (is_locked mutex ≡ true → MayMake moves.of_another t mutex) → MayMake (owner_move owner t moves) t mutex
may_owner Free t moves mutex locked owned free own another = free
may_owner Abandoned t moves mutex locked owned free own another = another (locked refl)
may_owner (OwnedBy u) t moves mutex locked owned free own another = may_either (u == t) t moves.of_own moves.of_another mutex (λ e. own (owned e) (locked refl)) (another (locked refl))

-- the move of lock
pub may_lock : (locks : Locks) (t : ℕ) (mutex : Option Mutex) → MayMake (lock_move locks t mutex) t mutex
may_lock locks t None = tt
may_lock locks t (Some x) =
    may_either (is_above_ceiling (assigned_priority locks t) x.protocol) t (Refuses EINVAL) _ (Some x) (λ e. tt)
    (may_owner x.owner t (record { of_free = free_move x.soundness; of_own = own_lock_move x.kind x.count; of_another = Waits }) (Some x) (λ locked. locked) (λ own. own)
    (may_free x.soundness t (Some x)) (λ own locked. may_lock_own x.kind t x own locked) (λ locked. locked))

-- the move of trylock
pub may_trylock : (locks : Locks) (t : ℕ) (mutex : Option Mutex) → MayMake (trylock_move locks t mutex) t mutex
may_trylock locks t None = tt
may_trylock locks t (Some x) =
    may_either (is_above_ceiling (assigned_priority locks t) x.protocol) t (Refuses EINVAL) _ (Some x) (λ e. tt)
    (may_owner x.owner t (record { of_free = free_move x.soundness; of_own = own_trylock_move x.kind x.count; of_another = Refuses EBUSY }) (Some x) (λ locked. locked) (λ own. own)
    (may_free x.soundness t (Some x)) (λ own locked. may_trylock_own x.kind t x own) (λ locked. tt))

may_wait_until : (is_bad is_past : Bool) (t : ℕ) (mutex : Option Mutex) → is_locked mutex ≡ true → MayMake (if is_bad then Refuses EINVAL else (if is_past then Refuses ETIMEDOUT else Waits)) t mutex
may_wait_until true is_past t mutex locked = tt
may_wait_until false true t mutex locked = tt
may_wait_until false false t mutex locked = locked

-- the move of a timed lock (pthread_mutex_timedlock)
pub may_timed : (move : LockMove) (time : Timespec) (tick t : ℕ) (mutex : Option Mutex) → MayMake move t mutex → MayMake (timed_move move time tick) t mutex
may_timed Takes time tick t mutex may = tt
may_timed Recovers time tick t mutex may = tt
may_timed Counts time tick t mutex may = may
may_timed Waits time tick t mutex may = may_wait_until (not (is_timespec time)) (nat_le (deadline_of time) tick) t mutex may
may_timed (Refuses e) time tick t mutex may = tt

-- the move of a re-lock of a mutex in use that has room for it (pthread_cond_wait)
pub may_relock : (t : ℕ) (mutex : Option Mutex) → IsSome mutex → HasRoom t mutex → MayMake (relock_move t mutex) t mutex
may_relock t None used room = absurd (false≢true used)
may_relock t (Some x) used room =
    may_owner x.owner t (record { of_free = free_move x.soundness; of_own = Counts; of_another = Waits }) (Some x) (λ locked. locked) (λ own. own)
    (may_free x.soundness t (Some x)) (λ own locked. (room_owner t x room own, own)) (λ locked. locked)
