-- A lock and a trylock of the running thread, and a mutex set up, repaired and destroyed.
use Rattle.std.proofs.Common.{◌≡◌, ℕ, ◌+◌, ◌<◌, Bool, true, false, List, refl, sym, ap, arith}
use Rattle.std.specs.Prelude.{Option, Some, None}
use Rattle.std.proofs.lemmas.Bool.{false≢true}
use Rattle.ptk_words.specs.Pools.{pool_get, pool_set, pool_changed}
use Rattle.ptk_words.specs.declared.TheConstants.{COUNT_LIMIT}
use Rattle.ptk_words.specs.declared.threads.Thread.{Thread}
use Rattle.ptk_words.specs.declared.threads.Wait.{Wait}
use Rattle.ptk_words.specs.declared.mutexes.MutexKind.{MutexKind}
use Rattle.ptk_words.specs.declared.mutexes.Protocol.{Protocol}
use Rattle.ptk_words_model.specs.declared.LockMove.{LockMove}
use Rattle.ptk_words_model.specs.declared.LockMove.TheVariants.{Takes, Recovers, Counts, Waits, Refuses}
use Rattle.ptk_words_model.specs.State.{Mutex, Locks}
use Rattle.ptk_words_model.specs.Priority.{thread_at}
use Rattle.ptk_words.specs.Threads.{mutex_of_wait}
use Rattle.ptk_words_model.specs.MutexCalls.{is_locked}
use Rattle.ptk_words_model.specs.Mutex.{mutex_at, new_mutex, waiters_of, count_of, owns, after_wait, after_count, after_move}
use Rattle.ptk_words_sync_invariant.specs.Locks.{is_ready, AreMutexes}
pub use Rattle.ptk_words_sync_invariant.specs.LockLaws.{running_after}
use Rattle.ptk_words_sync_invariant.proofs.Lined.{ready_waits, ready_alive}
use Rattle.ptk_words_sync_invariant.proofs.Threads.{idle_awaits, in_wait}
use Rattle.ptk_words_sync_invariant.proofs.Exclusion.{IsExclusive, IsMild, exclusive_at, exclusive_owned, exclusion_set, joined_by}
use Rattle.ptk_words_sync_invariant.proofs.Held.{Rest, AreHeld}
use Rattle.ptk_words_sync_invariant.proofs.Rooms.{roomy_joined}
use Rattle.ptk_words_sync_invariant.proofs.Handovers.{held_take, held_mild}
use Rattle.ptk_words_sync_invariant.proofs.Blocks.{used_blocked, lined_blocked, exclusion_joined}
use Rattle.ptk_words_sync_invariant.proofs.LockMoves.{MayMake}

-- ---- a count more

-- the mutex counted once more (own)
abbrev pub counted_up : Mutex → Mutex
counted_up mutex = record mutex { count = mutex.count + 1 }

mild_up : (mutex : Option Mutex) → count_of mutex < COUNT_LIMIT → (x : Mutex) → mutex ≡ Some x → IsMild x (record x { count = x.count + 1 })
mild_up mutex lt x e = record { owner = refl; waiters = refl; count = (let below : x.count < COUNT_LIMIT = rw e at lt in omega (arith, below)) }

-- a count below the limit goes up
pub held_count : (interval m : ℕ) (running : Option ℕ) (rest : Rest) (locks : Locks) → count_of (mutex_at locks m) < COUNT_LIMIT → rest.Holds locks.threads (pool_changed m counted_up locks.mutexes)
    → AreHeld interval running rest locks → AreHeld interval running rest (after_count m locks)
held_count interval m running rest locks lt kept are = held_mild interval m running rest counted_up locks kept (mild_up (mutex_at locks m) lt) are

-- ---- a wait

-- the running thread blocks as the last waiter of a mutex that is locked
pub held_wait : (interval t m : ℕ) (wait : Wait) (rest : Rest) (locks : Locks) → mutex_of_wait (Some wait) ≡ Some m → is_locked (mutex_at locks m) ≡ true → rest.Holds (pool_changed t (in_wait wait) locks.threads) locks.mutexes
    → AreHeld interval (Some t) rest locks → AreHeld interval None rest (after_wait t m wait locks)
held_wait interval t m wait rest locks names locked kept are =
    let ready : is_ready (thread_at locks t) ≡ true = are.lined.running_ready t refl in
    record {
      lined = lined_blocked t wait locks.threads locks.line are.lined;
      holds = rest.mutex m (joined_by t) (pool_changed t (in_wait wait) locks.threads) locks.mutexes (roomy_joined t) kept;
      exclusion = exclusion_joined t m wait locks.threads locks.mutexes (ready_alive (thread_at locks t) ready) (idle_awaits (thread_at locks t) (ready_waits (thread_at locks t) ready)) names locked are.exclusion;
      used = used_blocked interval t wait locks.threads are.used;
    }

-- ---- a lock and a trylock

-- what else holds stays where the running thread makes the move: where it counts up or waits (own)
pub record MayRest (rest : Rest) (t m : ℕ) (wait : Wait) (locks : Locks) : Type 0 where
  pub counts : count_of (mutex_at locks m) < COUNT_LIMIT → owns t (mutex_at locks m) ≡ true → rest.Holds locks.threads (pool_changed m counted_up locks.mutexes)
  pub waits : rest.Holds (pool_changed t (in_wait wait) locks.threads) locks.mutexes

pub held_move : (interval : ℕ) (move : LockMove) (t m : ℕ) (wait : Wait) (rest : Rest) (locks : Locks) → MayMake move t (mutex_at locks m) → mutex_of_wait (Some wait) ≡ Some m → MayRest rest t m wait locks
    → AreHeld interval (Some t) rest locks → AreHeld interval (running_after move t) rest (after_move move t m wait locks)
held_move interval Takes t m wait rest locks may names kept are = held_take interval t m (Some t) rest locks (ready_alive (thread_at locks t) (are.lined.running_ready t refl)) are
held_move interval Recovers t m wait rest locks may names kept are = held_take interval t m (Some t) rest locks (ready_alive (thread_at locks t) (are.lined.running_ready t refl)) are
held_move interval Counts t m wait rest locks may names kept are = held_count interval m (Some t) rest locks may.0 (kept.counts may.0 may.1) are
held_move interval Waits t m wait rest locks may names kept are = held_wait interval t m wait rest locks names may kept.waits are
held_move interval (Refuses e) t m wait rest locks may names kept are = are

-- ---- a mutex repaired, set up and destroyed

exclusive_new : (threads : List (Option Thread)) (m : ℕ) (kind : MutexKind) (protocol : Protocol) (is_robust : Bool) (mutex : Option Mutex) → mutex ≡ None → IsExclusive threads m mutex → IsExclusive threads m (Some (new_mutex kind protocol is_robust))
exclusive_new threads m kind protocol is_robust mutex free was =
    exclusive_owned threads m mutex (Some (new_mutex kind protocol is_robust)) (sym (ap waiters_of free)) (λ t e. absurd (false≢true e)) (omega arith) was

pub exclusion_new : (threads : List (Option Thread)) (mutexes : List (Option Mutex)) (m : ℕ) (kind : MutexKind) (protocol : Protocol) (is_robust : Bool) → pool_get mutexes m ≡ None → AreMutexes threads mutexes
    → AreMutexes threads (pool_set mutexes m (Some (new_mutex kind protocol is_robust)))
exclusion_new threads mutexes m kind protocol is_robust free are =
    exclusion_set threads mutexes m (Some (new_mutex kind protocol is_robust))
    (exclusive_new threads m kind protocol is_robust (pool_get mutexes m) free (exclusive_at threads mutexes are m)) (λ e. refl) are

pub exclusion_gone : (threads : List (Option Thread)) (mutexes : List (Option Mutex)) (m : ℕ) → is_locked (pool_get mutexes m) ≡ false → AreMutexes threads mutexes → AreMutexes threads (pool_set mutexes m None)
exclusion_gone threads mutexes m free are =
    exclusion_set threads mutexes m None
    (exclusive_owned threads m (pool_get mutexes m) None (sym (are.free_unwaited m free)) (λ t e. absurd (false≢true e)) (omega arith) (exclusive_at threads mutexes are m)) (λ e. refl) are
