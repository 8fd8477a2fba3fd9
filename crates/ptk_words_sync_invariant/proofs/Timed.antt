-- Where waits may have deadlines: what a lock, a trylock, a timed lock, an unlock and the end of an owner keep.
use Rattle.std.proofs.Common.{◌≡◌, ℕ, Bool, true, false, List, refl, ◌∙◌, ap}
use Rattle.std.specs.Prelude.{Option, Some, None}
use Rattle.ptk_words.specs.Pools.{pool_get, pool_set, pool_changed}
use Rattle.ptk_words.specs.declared.threads.Thread.{Thread}
use Rattle.ptk_words.specs.declared.threads.Wait.{Wait}
use Rattle.ptk_words.specs.declared.threads.Wait.TheVariants.{MutexWait}
use Rattle.ptk_words.specs.declared.mutexes.MutexKind.{MutexKind}
use Rattle.ptk_words.specs.declared.mutexes.Protocol.{Protocol}
use Rattle.ptk_words.specs.declared.mutexes.Soundness.{Soundness}
use Rattle.ptk_words.proofs.Pools.{changed_other}
use Rattle.ptk_words_model.specs.declared.LockMove.{LockMove}
use Rattle.ptk_words_model.specs.State.{Mutex, Condition, Locks, Syncs}
use Rattle.ptk_words_model.specs.Priority.{awaited, thread_at}
use Rattle.ptk_words.specs.Threads.{mutex_of_wait, condition_of_wait}
use Rattle.ptk_words_model.specs.Time.{Timespec}
use Rattle.ptk_words_model.specs.Mutex.{mutex_at, wait_of, owns, new_mutex, with_soundness, lock_move, trylock_move, after_move, after_unlock, after_hand_over, after_abandonment, after_owner_end}
use Rattle.ptk_words_model.specs.MutexCalls.{is_locked, timed_move}
use Rattle.ptk_words_model.specs.Condition.{names_mutex}
use Rattle.ptk_words_model.specs.Unwinding.{is_alive}
use Rattle.ptk_words_sync_invariant.specs.Locks.{is_ready}
use Rattle.ptk_words_sync_invariant.specs.LockLaws.{running_after}
pub use Rattle.ptk_words_sync_invariant.specs.Conditions.{AreListed, AreConditions, AreSyncs}
use Rattle.ptk_words_sync_invariant.proofs.Lined.{ready_waits, ready_alive}
use Rattle.ptk_words_sync_invariant.proofs.Listed.{IsElsewhere, elsewhere_none, elsewhere_mutex, listed_elsewhere}
use Rattle.ptk_words_sync_invariant.proofs.Threads.{IsWaking, awaits_wait, in_wait}
use Rattle.ptk_words_sync_invariant.proofs.Wakings.{waking_idle, waking_change}
use Rattle.ptk_words_sync_invariant.proofs.Held.{Rest, AreHeld}
use Rattle.ptk_words_sync_invariant.proofs.Handovers.{held_soundness, held_abandonment, held_hand_over}
use Rattle.ptk_words_sync_invariant.proofs.Unlocks.{held_unlock}
use Rattle.ptk_words_sync_invariant.proofs.Ends.{held_owner_end, held_end_same, held_owns_none}
use Rattle.ptk_words_sync_invariant.proofs.Blocks.{blocks_waits, wait_change}
use Rattle.ptk_words_sync_invariant.proofs.LockMoves.{MayMake, may_lock, may_trylock, may_timed}
use Rattle.ptk_words_sync_invariant.proofs.Moves.{MayRest, held_move, exclusion_new, exclusion_gone}
use Rattle.ptk_words_sync_invariant.proofs.Conditions.{waits_on, awaits_off, conditions_off, conditions_mutex, conditions_counted, conditions_unnamed, free_unnamed, unnamed}

-- ---- what else holds

pub listed_woken : (t : ℕ) (f : Thread → Thread) (threads : List (Option Thread)) (waiters : List ℕ) → IsWaking f → IsElsewhere (wait_of (pool_get threads t)) → AreListed threads waiters → AreListed (pool_changed t f threads) waiters
listed_woken t f threads waiters waking was are =
    listed_elsewhere t threads (pool_changed t f threads) waiters (waking_change t f threads waking are.ended_wait) was (rw (waking_idle t f threads waking) elsewhere_none) are

-- a thread that waits on no condition variable is woken
pub conditions_woken : (t : ℕ) (f : Thread → Thread) (threads : List (Option Thread)) (mutexes : List (Option Mutex)) (conditions : List (Option Condition)) → IsWaking f → waits_on (pool_get threads t) ≡ None
    → AreConditions threads mutexes conditions → AreConditions (pool_changed t f threads) mutexes conditions
conditions_woken t f threads mutexes conditions waking off are =
    conditions_off t threads (pool_changed t f threads) mutexes conditions (λ u ne. ap wait_of (changed_other t u f threads ne)) off (ap condition_of_wait (waking_idle t f threads waking)) are

-- a thread that waits for nothing begins a wait that neither the console nor a thread lists
pub listed_blocked : (t : ℕ) (wait : Wait) (threads : List (Option Thread)) (waiters : List ℕ) → is_ready (pool_get threads t) ≡ true → IsElsewhere (Some wait) → AreListed threads waiters → AreListed (pool_changed t (in_wait wait) threads) waiters
listed_blocked t wait threads waiters ready other are =
    let alive : is_alive (pool_get threads t) ≡ true = ready_alive (pool_get threads t) ready in
    listed_elsewhere t threads (pool_changed t (in_wait wait) threads) waiters (wait_change t wait threads alive are.ended_wait)
    (rw (ready_waits (pool_get threads t) ready) elsewhere_none) (rw (blocks_waits t wait threads alive) other) are

-- a thread that waits for nothing begins a wait on no condition variable
pub conditions_blocked : (t : ℕ) (wait : Wait) (threads : List (Option Thread)) (mutexes : List (Option Mutex)) (conditions : List (Option Condition)) → is_ready (pool_get threads t) ≡ true → condition_of_wait (Some wait) ≡ None
    → AreConditions threads mutexes conditions → AreConditions (pool_changed t (in_wait wait) threads) mutexes conditions
conditions_blocked t wait threads mutexes conditions ready off are =
    conditions_off t threads (pool_changed t (in_wait wait) threads) mutexes conditions (λ u ne. ap wait_of (changed_other t u (in_wait wait) threads ne))
    (ap condition_of_wait (ready_waits (pool_get threads t) ready)) (ap condition_of_wait (blocks_waits t wait threads (ready_alive (pool_get threads t) ready)) ∙ off) are

pub rest_woken : (t m : ℕ) (f : Thread → Thread) (threads : List (Option Thread)) (mutexes : List (Option Mutex)) (waiters : List ℕ) (conditions : List (Option Condition)) → IsWaking f → awaited (pool_get threads t) ≡ Some m
    → AreListed threads waiters × AreConditions threads mutexes conditions → AreListed (pool_changed t f threads) waiters × AreConditions (pool_changed t f threads) mutexes conditions
rest_woken t m f threads mutexes waiters conditions waking waits are =
    let wait : mutex_of_wait (wait_of (pool_get threads t)) ≡ Some m = awaits_wait m (pool_get threads t) waits in (
      listed_woken t f threads waiters waking (elsewhere_mutex m (wait_of (pool_get threads t)) wait) are.0,
      conditions_woken t f threads mutexes conditions waking (awaits_off m (wait_of (pool_get threads t)) wait) are.1,
    )

-- these wait for input, and these condition variables agree with the threads and the mutexes (own)
abbrev pub timed_rest : List ℕ → List (Option Condition) → Rest
timed_rest waiters conditions = record {
  Holds = λ threads mutexes. AreListed threads waiters × AreConditions threads mutexes conditions;
  mutex = λ m f threads mutexes roomy are. (are.0, conditions_mutex m f threads mutexes conditions roomy are.1);
  woken = λ t m f threads mutexes waking waits are. rest_woken t m f threads mutexes waiters conditions waking waits are;
  ended = λ t threads mutexes are. are.0.ended_wait t;
}

-- these threads, line and mutexes with these condition variables (own)
abbrev pub syncs_with : Locks → List (Option Condition) → Syncs
syncs_with locks conditions = record { locks = locks; conditions = conditions }

pub held_syncs : (interval : ℕ) (running : Option ℕ) (waiters : List ℕ) (syncs : Syncs) → AreSyncs interval running waiters syncs → AreHeld interval running (timed_rest waiters syncs.conditions) syncs.locks
held_syncs interval running waiters syncs are = record { lined = are.lined; holds = (are.waiting, are.conditions); exclusion = are.exclusion; used = are.used }

pub syncs_held : (interval : ℕ) (running : Option ℕ) (waiters : List ℕ) (locks : Locks) (conditions : List (Option Condition)) → AreHeld interval running (timed_rest waiters conditions) locks → AreSyncs interval running waiters (syncs_with locks conditions)
syncs_held interval running waiters locks conditions are = record { lined = are.lined; waiting = are.holds.0; exclusion = are.exclusion; conditions = are.holds.1; used = are.used }

-- ---- unlock and the end of an owner

pub syncs_unlock : (interval m : ℕ) (running : Option ℕ) (waiters : List ℕ) (syncs : Syncs) → AreSyncs interval running waiters syncs → AreSyncs interval running waiters (record syncs { locks = after_unlock m syncs.locks })
syncs_unlock interval m running waiters syncs are =
    syncs_held interval running waiters (after_unlock m syncs.locks) syncs.conditions (held_unlock interval m running (timed_rest waiters syncs.conditions) syncs.locks (held_syncs interval running waiters syncs are))

-- the mutex goes to its heir, or is free
pub syncs_hand_over : (interval m : ℕ) (running : Option ℕ) (waiters : List ℕ) (syncs : Syncs) → AreSyncs interval running waiters syncs → AreSyncs interval running waiters (record syncs { locks = after_hand_over m syncs.locks })
syncs_hand_over interval m running waiters syncs are =
    syncs_held interval running waiters (after_hand_over m syncs.locks) syncs.conditions (held_hand_over interval m running (timed_rest waiters syncs.conditions) syncs.locks (held_syncs interval running waiters syncs are))

-- nobody owns the mutex, and it stays locked
pub syncs_abandonment : (interval m : ℕ) (running : Option ℕ) (waiters : List ℕ) (syncs : Syncs) → AreSyncs interval running waiters syncs → AreSyncs interval running waiters (record syncs { locks = after_abandonment m syncs.locks })
syncs_abandonment interval m running waiters syncs are =
    syncs_held interval running waiters (after_abandonment m syncs.locks) syncs.conditions (held_abandonment interval m running (timed_rest waiters syncs.conditions) syncs.locks (held_syncs interval running waiters syncs are))

-- the thread waits for no mutex
pub syncs_owner_end : (interval t : ℕ) (running : Option ℕ) (waiters : List ℕ) (syncs : Syncs) → awaited (thread_at syncs.locks t) ≡ None → AreSyncs interval running waiters syncs
    → AreSyncs interval running waiters (record syncs { locks = after_owner_end t syncs.locks })
syncs_owner_end interval t running waiters syncs idle are =
    syncs_held interval running waiters (after_owner_end t syncs.locks) syncs.conditions (held_owner_end interval t running (timed_rest waiters syncs.conditions) syncs.locks idle (held_syncs interval running waiters syncs are))

-- it is as before
pub syncs_end_same : (interval t : ℕ) (running : Option ℕ) (waiters : List ℕ) (syncs : Syncs) → awaited (thread_at syncs.locks t) ≡ None → AreSyncs interval running waiters syncs → thread_at (after_owner_end t syncs.locks) t ≡ thread_at syncs.locks t
syncs_end_same interval t running waiters syncs idle are = held_end_same interval t running (timed_rest waiters syncs.conditions) syncs.locks idle (held_syncs interval running waiters syncs are)

-- and owns no mutex
pub syncs_owns_none : (interval t : ℕ) (running : Option ℕ) (waiters : List ℕ) (syncs : Syncs) → awaited (thread_at syncs.locks t) ≡ None → AreSyncs interval running waiters syncs → (m : ℕ) → owns t (mutex_at (after_owner_end t syncs.locks) m) ≡ false
syncs_owns_none interval t running waiters syncs idle are m = held_owns_none interval t running (timed_rest waiters syncs.conditions) syncs.locks idle (held_syncs interval running waiters syncs are) m

-- ---- lock, trylock and timed lock

-- the running thread makes a move on a mutex, in this wait where it waits
pub syncs_move : (interval : ℕ) (move : LockMove) (t m : ℕ) (wait : Wait) (waiters : List ℕ) (syncs : Syncs) → MayMake move t (mutex_at syncs.locks m) → mutex_of_wait (Some wait) ≡ Some m → AreSyncs interval (Some t) waiters syncs
    → AreSyncs interval (running_after move t) waiters (record syncs { locks = after_move move t m wait syncs.locks })
syncs_move interval move t m wait waiters syncs may for_mutex are =
    let ready : is_ready (thread_at syncs.locks t) ≡ true = are.lined.running_ready t refl in
    let off : waits_on (thread_at syncs.locks t) ≡ None = ap condition_of_wait (ready_waits (thread_at syncs.locks t) ready) in
    let kept : MayRest (timed_rest waiters syncs.conditions) t m wait syncs.locks = record {
      counts = λ lt own. (are.waiting, conditions_counted t m syncs.threads syncs.mutexes syncs.conditions own off are.conditions);
      waits = (
        listed_blocked t wait syncs.threads waiters ready (elsewhere_mutex m (Some wait) for_mutex) are.waiting,
        conditions_blocked t wait syncs.threads syncs.mutexes syncs.conditions ready (awaits_off m (Some wait) for_mutex) are.conditions,
      );
    } in
    syncs_held interval (running_after move t) waiters (after_move move t m wait syncs.locks) syncs.conditions
    (held_move interval move t m wait (timed_rest waiters syncs.conditions) syncs.locks may for_mutex kept (held_syncs interval (Some t) waiters syncs are))

pub syncs_lock_move : (interval t m : ℕ) (waiters : List ℕ) (syncs : Syncs) → AreSyncs interval (Some t) waiters syncs
    → AreSyncs interval (running_after (lock_move syncs.locks t (mutex_at syncs.locks m)) t) waiters (record syncs { locks = after_move (lock_move syncs.locks t (mutex_at syncs.locks m)) t m (MutexWait m None) syncs.locks })
syncs_lock_move interval t m waiters syncs are =
    syncs_move interval (lock_move syncs.locks t (mutex_at syncs.locks m)) t m (MutexWait m None) waiters syncs (may_lock syncs.locks t (mutex_at syncs.locks m)) refl are

pub syncs_trylock_move : (interval t m : ℕ) (waiters : List ℕ) (syncs : Syncs) → AreSyncs interval (Some t) waiters syncs
    → AreSyncs interval (running_after (trylock_move syncs.locks t (mutex_at syncs.locks m)) t) waiters (record syncs { locks = after_move (trylock_move syncs.locks t (mutex_at syncs.locks m)) t m (MutexWait m None) syncs.locks })
syncs_trylock_move interval t m waiters syncs are =
    syncs_move interval (trylock_move syncs.locks t (mutex_at syncs.locks m)) t m (MutexWait m None) waiters syncs (may_trylock syncs.locks t (mutex_at syncs.locks m)) refl are

-- the running thread locks the mutex, or waits for it until the deadline
pub syncs_timed_move : (interval t m : ℕ) (time : Timespec) (tick : ℕ) (deadline : Option ℕ) (waiters : List ℕ) (syncs : Syncs) → AreSyncs interval (Some t) waiters syncs
    → AreSyncs interval (running_after (timed_move (lock_move syncs.locks t (mutex_at syncs.locks m)) time tick) t) waiters
    (record syncs { locks = after_move (timed_move (lock_move syncs.locks t (mutex_at syncs.locks m)) time tick) t m (MutexWait m deadline) syncs.locks })
syncs_timed_move interval t m time tick deadline waiters syncs are =
    syncs_move interval (timed_move (lock_move syncs.locks t (mutex_at syncs.locks m)) time tick) t m (MutexWait m deadline) waiters syncs
    (may_timed (lock_move syncs.locks t (mutex_at syncs.locks m)) time tick t (mutex_at syncs.locks m) (may_lock syncs.locks t (mutex_at syncs.locks m))) refl are

-- ---- a mutex repaired, set up and destroyed

pub syncs_soundness : (interval m : ℕ) (running : Option ℕ) (waiters : List ℕ) (soundness : Soundness) (syncs : Syncs) → AreSyncs interval running waiters syncs → AreSyncs interval running waiters (record syncs { locks = with_soundness soundness m syncs.locks })
syncs_soundness interval m running waiters soundness syncs are =
    syncs_held interval running waiters (with_soundness soundness m syncs.locks) syncs.conditions (held_soundness interval m running (timed_rest waiters syncs.conditions) soundness syncs.locks (held_syncs interval running waiters syncs are))

-- a new mutex at a free number
pub syncs_mutex_init : (interval m : ℕ) (running : Option ℕ) (waiters : List ℕ) (kind : MutexKind) (protocol : Protocol) (is_robust : Bool) (syncs : Syncs) → mutex_at syncs.locks m ≡ None → AreSyncs interval running waiters syncs
    → AreSyncs interval running waiters (record syncs { locks = record (syncs.locks) { mutexes = pool_set syncs.mutexes m (Some (new_mutex kind protocol is_robust)) } })
syncs_mutex_init interval m running waiters kind protocol is_robust syncs free are = record {
  lined = are.lined;
  waiting = are.waiting;
  exclusion = exclusion_new syncs.threads syncs.mutexes m kind protocol is_robust free are.exclusion;
  conditions = conditions_unnamed m (Some (new_mutex kind protocol is_robust)) syncs.threads syncs.mutexes syncs.conditions (free_unnamed m syncs.threads syncs.mutexes syncs.conditions free are.conditions) are.conditions;
  used = are.used;
}

-- the number of a mutex that is neither locked nor named by a waiter gets free (pthread_mutex_destroy, EBUSY)
pub syncs_mutex_destroy : (interval m : ℕ) (running : Option ℕ) (waiters : List ℕ) (syncs : Syncs) → is_locked (mutex_at syncs.locks m) ≡ false → names_mutex syncs.locks m ≡ false → AreSyncs interval running waiters syncs
    → AreSyncs interval running waiters (record syncs { locks = record (syncs.locks) { mutexes = pool_set syncs.mutexes m None } })
syncs_mutex_destroy interval m running waiters syncs free none are = record {
  lined = are.lined;
  waiting = are.waiting;
  exclusion = exclusion_gone syncs.threads syncs.mutexes m free are.exclusion;
  conditions = conditions_unnamed m None syncs.threads syncs.mutexes syncs.conditions (unnamed m syncs.locks none) are.conditions;
  used = are.used;
}
