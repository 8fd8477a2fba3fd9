-- The running thread sleeps, waits on a condition variable, or re-locks a mutex at once since its deadline is past.
use Rattle.std.proofs.Common.{◌≡◌, ℕ, ◌<◌, ◌≤◌, Bool, true, false, List, [], ◌∷◌, ◌++◌, refl, sym, ◌∙◌, ap, subst, arith, inl, inr}
use Rattle.std.specs.Prelude.{◌-◌, IsSome, Option, Some, None, option_map, nat_lt, if◌then◌else◌}
use Rattle.std.proofs.lemmas.Bool.{cases_eq, false≢true, ltb-false}
use Rattle.ptk_words.specs.Pools.{pool_get, pool_set, pool_changed}
use Rattle.ptk_words.specs.declared.TheConstants.{COUNT_LIMIT}
use Rattle.ptk_words.specs.declared.threads.Thread.{Thread}
use Rattle.ptk_words.specs.declared.threads.Wait.{Wait}
use Rattle.ptk_words.specs.declared.threads.Wait.TheVariants.{SleepWait, ConditionWait, RelockWait}
use Rattle.ptk_words.proofs.Pools.{each_changed, changed_own, changed_other}
use Rattle.ptk_words.proofs.Options.{mapped_some}
use Rattle.ptk_words_model.specs.State.{Mutex, Condition, Locks, Syncs}
use Rattle.ptk_words_model.specs.Priority.{awaited, thread_at}
use Rattle.ptk_words.specs.Threads.{mutex_of_wait, condition_of_wait}
use Rattle.ptk_words_model.specs.Schedule.{with_thread}
use Rattle.ptk_words_model.specs.Mutex.{mutex_at, with_mutex, wait_of, owns, count_of, soundness_of, relock_move, after_move, after_last_unlock, after_unlock}
use Rattle.ptk_words_model.specs.Condition.{after_condition_wait, waiters_on}
use Rattle.ptk_words_model.specs.Unwinding.{is_alive}
use Rattle.ptk_words_sync_invariant.specs.Locks.{is_ready}
use Rattle.ptk_words_sync_invariant.specs.LockLaws.{running_after}
use Rattle.ptk_words_sync_invariant.specs.Conditions.{HasRoom, AreConditions, AreSyncs}
use Rattle.ptk_words_sync_invariant.proofs.Lined.{ready_waits, ready_alive}
use Rattle.ptk_words_sync_invariant.proofs.Listed.{IsElsewhere}
use Rattle.ptk_words_sync_invariant.proofs.Threads.{IsWaking, changed_same, idle_awaits, in_wait, in_wait_alive}
use Rattle.ptk_words_sync_invariant.proofs.Wakings.{waking_change}
use Rattle.ptk_words_sync_invariant.proofs.Exclusion.{exclusion_same}
use Rattle.ptk_words_sync_invariant.proofs.Held.{IsRoomy, Rest, AreHeld}
use Rattle.ptk_words_sync_invariant.proofs.Unlocks.{last_unlock}
use Rattle.ptk_words_sync_invariant.proofs.Blocks.{blocks_waits, blocks_awaits, used_blocked, lined_blocked}
use Rattle.ptk_words_sync_invariant.proofs.LockMoves.{may_relock}
use Rattle.ptk_words_sync_invariant.proofs.Conditions.{room_map}
use Rattle.ptk_words_sync_invariant.proofs.Gathered.{conditions_joined}
use Rattle.ptk_words_sync_invariant.proofs.Timed.{syncs_with, listed_blocked, conditions_blocked, syncs_unlock, syncs_move}

-- ---- what an unlock leaves of the mutex

-- the mutex is in use and has room for the thread's re-lock, and an ended thread waits for nothing (own)
pub record IsRoomyFor (t m : ℕ) (threads : List (Option Thread)) (mutexes : List (Option Mutex)) : Type 0 where
  pub ended : (u : ℕ) → is_alive (pool_get threads u) ≡ false → wait_of (pool_get threads u) ≡ None
  pub used : IsSome (pool_get mutexes m)
  pub room : HasRoom t (pool_get mutexes m)

pub roomy_mutex : (t m n : ℕ) (f : Mutex → Mutex) (threads : List (Option Thread)) (mutexes : List (Option Mutex)) → IsRoomy f → IsRoomyFor t m threads mutexes → IsRoomyFor t m threads (pool_changed n f mutexes)
roomy_mutex t m n f threads mutexes roomy is = record {
  ended = is.ended;
  used = each_changed (λ (j : ℕ) (o : Option Mutex). j ≡ m → IsSome o) n f mutexes
      (λ same. mapped_some f (pool_get mutexes n) (subst (λ (j : ℕ). IsSome (pool_get mutexes j)) (sym same) is.used)) (λ j ne same. subst (λ (j : ℕ). IsSome (pool_get mutexes j)) (sym same) is.used) m refl;
  room = each_changed (λ (j : ℕ) (o : Option Mutex). j ≡ m → HasRoom t o) n f mutexes
      (λ same. room_map t f (pool_get mutexes n) roomy (subst (λ (j : ℕ). HasRoom t (pool_get mutexes j)) (sym same) is.room)) (λ j ne same. subst (λ (j : ℕ). HasRoom t (pool_get mutexes j)) (sym same) is.room) m refl;
}

pub roomy_woken : (t m u : ℕ) (f : Thread → Thread) (threads : List (Option Thread)) (mutexes : List (Option Mutex)) → IsWaking f → IsRoomyFor t m threads mutexes → IsRoomyFor t m (pool_changed u f threads) mutexes
roomy_woken t m u f threads mutexes waking is = record { ended = (waking_change u f threads waking is.ended).ended; used = is.used; room = is.room }

abbrev pub room_rest : ℕ → ℕ → Rest
room_rest t m = record {
  Holds = λ threads mutexes. IsRoomyFor t m threads mutexes;
  mutex = λ n f threads mutexes roomy is. roomy_mutex t m n f threads mutexes roomy is;
  woken = λ u n f threads mutexes waking waits is. roomy_woken t m u f threads mutexes waking is;
  ended = λ u threads mutexes is. is.ended u;
}

abbrev IsRoomyIn : ℕ → ℕ → Locks → Type 0
IsRoomyIn t m locks = IsRoomyFor t m locks.threads locks.mutexes

pub down_below : (o : Option Mutex) → count_of o ≤ COUNT_LIMIT → count_of (option_map (λ (x : Mutex). record x { count = x.count - 1 }) o) < COUNT_LIMIT
down_below None le = omega arith
down_below (Some x) le = omega (arith, le)

room_by : (interval t m : ℕ) (running : Option ℕ) (waiters : List ℕ) (b : Bool) (syncs : Syncs) → nat_lt 1 (count_of (mutex_at syncs.locks m)) ≡ b → IsSome (mutex_at syncs.locks m) → AreSyncs interval running waiters syncs
    → IsRoomyIn t m (if b then with_mutex m (λ (x : Mutex). record x { count = x.count - 1 }) syncs.locks else after_last_unlock (soundness_of (mutex_at syncs.locks m)) m syncs.locks)
room_by interval t m running waiters true syncs e used are =
    let own : pool_get (pool_changed m (λ (x : Mutex). record x { count = x.count - 1 }) syncs.mutexes) m ≡ option_map (λ (x : Mutex). record x { count = x.count - 1 }) (pool_get syncs.mutexes m) =
    changed_own m (λ (x : Mutex). record x { count = x.count - 1 }) syncs.mutexes in
    record {
      ended = are.waiting.ended_wait;
      used = subst (λ (o : Option Mutex). IsSome o) (sym own) (mapped_some (λ (x : Mutex). record x { count = x.count - 1 }) (mutex_at syncs.locks m) used);
      room = subst (λ (o : Option Mutex). HasRoom t o) (sym own) (λ counts. down_below (mutex_at syncs.locks m) (are.exclusion.counts m));
    }
room_by interval t m running waiters false syncs e used are =
    let le : count_of (mutex_at syncs.locks m) ≤ 1 = ltb-false 1 (count_of (mutex_at syncs.locks m)) e in
    let held : AreHeld interval running (room_rest t m) syncs.locks =
    record { lined = are.lined; holds = record { ended = are.waiting.ended_wait; used = used; room = λ counts. omega (arith, le) }; exclusion = are.exclusion; used = are.used } in
    (last_unlock interval m running (room_rest t m) (soundness_of (mutex_at syncs.locks m)) syncs.locks held).holds

-- a mutex in use, unlocked once, is in use and has room for a re-lock
pub room_unlock : (interval t m : ℕ) (running : Option ℕ) (waiters : List ℕ) (syncs : Syncs) → IsSome (mutex_at syncs.locks m) → AreSyncs interval running waiters syncs → IsRoomyIn t m (after_unlock m syncs.locks)
room_unlock interval t m running waiters syncs used are = room_by interval t m running waiters (nat_lt 1 (count_of (mutex_at syncs.locks m))) syncs refl used are

-- ---- the running thread blocks, for no mutex

-- a wait for no mutex, which neither the console nor a thread lists
pub syncs_blocked : (interval t : ℕ) (wait : Wait) (waiters : List ℕ) (conditions : List (Option Condition)) (syncs : Syncs) → mutex_of_wait (Some wait) ≡ None → IsElsewhere (Some wait)
    → AreConditions (pool_changed t (in_wait wait) syncs.threads) syncs.mutexes conditions → AreSyncs interval (Some t) waiters syncs
    → AreSyncs interval None waiters (syncs_with (with_thread t (in_wait wait) syncs.locks) conditions)
syncs_blocked interval t wait waiters conditions syncs for_none other kept are =
    let after : List (Option Thread) = pool_changed t (in_wait wait) syncs.threads in
    let ready : is_ready (thread_at syncs.locks t) ≡ true = are.lined.running_ready t refl in
    let idle : awaited (thread_at syncs.locks t) ≡ None = idle_awaits (thread_at syncs.locks t) (ready_waits (thread_at syncs.locks t) ready) in
    let now : awaited (pool_get after t) ≡ None = blocks_awaits t wait syncs.threads (ready_alive (thread_at syncs.locks t) ready) ∙ for_none in
    record {
      lined = lined_blocked t wait syncs.threads syncs.line are.lined;
      waiting = listed_blocked t wait syncs.threads waiters ready other are.waiting;
      exclusion = exclusion_same syncs.threads after syncs.mutexes
          (λ u. elim (cases_eq u t) [ inl same ↦ (rw same (now ∙ sym idle)) | inr ne ↦ ap awaited (changed_other t u (in_wait wait) syncs.threads ne) ])
          (changed_same is_alive t (in_wait wait) syncs.threads (in_wait_alive wait (pool_get syncs.threads t))) are.exclusion;
      conditions = kept;
      used = used_blocked interval t wait syncs.threads are.used;
    }

pub elsewhere_sleep : (deadline : ℕ) → IsElsewhere (Some (SleepWait deadline))
elsewhere_sleep deadline = record { no_input = λ e. let no : ⊥ = cc in no; no_join = λ u e. let no : ⊥ = cc in no }

pub elsewhere_condition : (c m : ℕ) (deadline : Option ℕ) → IsElsewhere (Some (ConditionWait c m deadline))
elsewhere_condition c m deadline = record { no_input = λ e. let no : ⊥ = cc in no; no_join = λ u e. let no : ⊥ = cc in no }

-- a sleep until the deadline (clock_nanosleep)
pub syncs_sleep : (interval t deadline : ℕ) (waiters : List ℕ) (syncs : Syncs) → AreSyncs interval (Some t) waiters syncs
    → AreSyncs interval None waiters (record syncs { locks = with_thread t (λ thread. record thread { wait = Some (SleepWait deadline) }) syncs.locks })
syncs_sleep interval t deadline waiters syncs are =
    syncs_blocked interval t (SleepWait deadline) waiters syncs.conditions syncs refl (elsewhere_sleep deadline)
    (conditions_blocked t (SleepWait deadline) syncs.threads syncs.mutexes syncs.conditions (are.lined.running_ready t refl) refl are.conditions) are

-- ---- a wait on a condition variable

pub owned_used : (t : ℕ) (o : Option Mutex) → owns t o ≡ true → IsSome o
owned_used t None e = absurd (false≢true e)
owned_used t (Some x) e = refl

-- the owner of the mutex releases it once and blocks on a condition variable in use (pthread_cond_wait, pthread_cond_timedwait)
pub syncs_condition_wait : (interval t c m : ℕ) (deadline : Option ℕ) (waiters : List ℕ) (syncs : Syncs) → owns t (mutex_at syncs.locks m) ≡ true → IsSome (pool_get syncs.conditions c) → AreSyncs interval (Some t) waiters syncs
    → AreSyncs interval None waiters (after_condition_wait t c m deadline syncs)
syncs_condition_wait interval t c m deadline waiters syncs own used are =
    let wait : Wait = ConditionWait c m deadline in
    let locks : Locks = after_unlock m syncs.locks in
    let released : AreSyncs interval (Some t) waiters (record syncs { locks = locks }) = syncs_unlock interval m (Some t) waiters syncs are in
    let ready : is_ready (thread_at locks t) ≡ true = released.lined.running_ready t refl in
    let left : IsRoomyIn t m locks = room_unlock interval t m (Some t) waiters syncs (owned_used t (mutex_at syncs.locks m) own) are in
    syncs_blocked interval t (ConditionWait c m deadline) waiters (pool_set syncs.conditions c (Some (record { waiters = waiters_on (pool_get syncs.conditions c) ++ t ∷ [] }))) (record syncs { locks = locks }) refl (elsewhere_condition c m deadline)
    (conditions_joined t c m deadline locks.threads (pool_changed t (in_wait (ConditionWait c m deadline)) locks.threads) locks.mutexes syncs.conditions (λ u ne. ap wait_of (changed_other t u (in_wait (ConditionWait c m deadline)) locks.threads ne))
    (ap condition_of_wait (ready_waits (thread_at locks t) ready)) (blocks_waits t (ConditionWait c m deadline) locks.threads (ready_alive (thread_at locks t) ready)) used left.used left.room released.conditions) released

-- ---- a deadline already reached

-- the owner of the mutex releases it once and locks it again, or waits for it (pthread_cond_timedwait)
pub syncs_late_wait : (interval t m : ℕ) (reply : Option ℕ) (waiters : List ℕ) (syncs : Syncs) → owns t (mutex_at syncs.locks m) ≡ true → AreSyncs interval (Some t) waiters syncs
    → AreSyncs interval (running_after (relock_move t (mutex_at (after_unlock m syncs.locks) m)) t) waiters
    (record syncs { locks = after_move (relock_move t (mutex_at (after_unlock m syncs.locks) m)) t m (RelockWait m reply) (after_unlock m syncs.locks) })
syncs_late_wait interval t m reply waiters syncs own are =
    let locks : Locks = after_unlock m syncs.locks in
    let left : IsRoomyIn t m locks = room_unlock interval t m (Some t) waiters syncs (owned_used t (mutex_at syncs.locks m) own) are in
    syncs_move interval (relock_move t (mutex_at locks m)) t m (RelockWait m reply) waiters (record syncs { locks = locks }) (may_relock t (mutex_at locks m) left.used left.room) refl (syncs_unlock interval m (Some t) waiters syncs are)
