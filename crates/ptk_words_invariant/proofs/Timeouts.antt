-- The expiries of a tick leave the state whole.
use Rattle.std.proofs.Common.{◌≡◌, ℕ, List, [], ◌∷◌, fold, refl, ◌∙◌, ap}
use Rattle.std.specs.Prelude.{Option, Some, None}
use Rattle.ptk_words.specs.Faults.{errno_number}
use Rattle.ptk_words.specs.declared.faults.Errno.TheVariants.{ETIMEDOUT}
use Rattle.ptk_words.specs.declared.sections.Limits.{Limits}
use Rattle.ptk_words.specs.declared.threads.Wait.{Wait}
use Rattle.ptk_words.specs.declared.threads.Wait.TheVariants.{InputWait, SleepWait, JoinWait, MutexWait, ConditionWait, RelockWait}
use Rattle.ptk_words.proofs.Pools.{length-changed}
use Rattle.ptk_words_model.specs.State.{Part}
use Rattle.ptk_words_model.specs.Priority.{thread_at}
use Rattle.ptk_words_model.specs.Schedule.{after_wake}
use Rattle.ptk_words_model.specs.Mutex.{wait_of, without_mutex_waiter}
use Rattle.ptk_words_model.specs.Condition.{after_unblock}
use Rattle.ptk_words_model.specs.Withdrawal.{Expiry, in_order, due, after_timeout, after_expiries}
use Rattle.ptk_words.specs.Threads.{condition_of_wait}
use Rattle.ptk_words_sync_invariant.proofs.Relocks.{syncs_unblock}
use Rattle.ptk_words_sync_invariant.proofs.Timeouts.{syncs_sleep_end, syncs_lock_end}
use Rattle.ptk_words_invariant.specs.Well.{IsWell}
use Rattle.ptk_words_invariant.proofs.Synced.{syncs_of_well, well_syncs_by}
use Rattle.ptk_words_invariant.proofs.SyncSizes.{sized_unblock}

-- ---- the deadline of one thread comes

-- a sleeper is woken
pub well_sleep_end : (limits : Limits) (t deadline : ℕ) (values : List ℕ) (s : Part) → wait_of (thread_at s.locks t) ≡ Some (SleepWait deadline) → IsWell limits s → IsWell limits (record s { syncs = record (s.syncs) { locks = after_wake t values s.locks } })
well_sleep_end limits t deadline values s waits well =
    well_syncs_by limits (λ syncs. record syncs { locks = after_wake t values syncs.locks }) s (record { threads = length-changed t _ s.threads; mutexes = refl; conditions = refl })
    (syncs_sleep_end limits.interval t deadline values s.running s.console.waiters s.syncs waits (syncs_of_well limits s well)) well

-- a timed lock fails
well_lock_end : (limits : Limits) (t m : ℕ) (deadline : Option ℕ) (values : List ℕ) (s : Part) → wait_of (thread_at s.locks t) ≡ Some (MutexWait m deadline) → IsWell limits s
    → IsWell limits (record s { syncs = record (s.syncs) { locks = after_wake t values (without_mutex_waiter t m s.locks) } })
well_lock_end limits t m deadline values s waits well =
    well_syncs_by limits (λ syncs. record syncs { locks = after_wake t values (without_mutex_waiter t m syncs.locks) }) s
    (record { threads = length-changed t _ s.threads; mutexes = length-changed m _ s.mutexes; conditions = refl })
    (syncs_lock_end limits.interval t m deadline values s.running s.console.waiters s.syncs waits (syncs_of_well limits s well)) well

-- a waiter of a condition variable is unblocked
pub well_wait_end : (limits : Limits) (t c m : ℕ) (deadline reply : Option ℕ) (s : Part) → wait_of (thread_at s.locks t) ≡ Some (ConditionWait c m deadline) → IsWell limits s → IsWell limits (record s { syncs = after_unblock t c reply s.syncs })
well_wait_end limits t c m deadline reply s waits well =
    well_syncs_by limits (after_unblock t c reply) s (sized_unblock t c reply s.syncs)
    (syncs_unblock limits.interval t c reply s.running s.console.waiters s.syncs (ap condition_of_wait waits) (syncs_of_well limits s well)) well

well_timeout_of : (limits : Limits) (t : ℕ) (wait : Option Wait) (s : Part) → wait_of (thread_at s.locks t) ≡ wait → IsWell limits s → IsWell limits (after_timeout t wait s)
well_timeout_of limits t None s e well = well
well_timeout_of limits t (Some InputWait) s e well = well
well_timeout_of limits t (Some (SleepWait deadline)) s e well = well_sleep_end limits t deadline (0 ∷ []) s e well
well_timeout_of limits t (Some (JoinWait u)) s e well = well
well_timeout_of limits t (Some (MutexWait m deadline)) s e well = well_lock_end limits t m deadline (errno_number ETIMEDOUT ∷ []) s e well
well_timeout_of limits t (Some (ConditionWait c m deadline)) s e well = well_wait_end limits t c m deadline (Some (errno_number ETIMEDOUT)) s e well
well_timeout_of limits t (Some (RelockWait m reply)) s e well = well

-- whatever the thread waits for
pub well_timeout : (limits : Limits) (t : ℕ) (s : Part) → IsWell limits s → IsWell limits (after_timeout t (wait_of (thread_at s.locks t)) s)
well_timeout limits t s well = well_timeout_of limits t (wait_of (thread_at s.locks t)) s refl well

-- ---- all expiries of a tick

well_timeouts : (limits : Limits) (expiries : List Expiry) (s : Part) → IsWell limits s → IsWell limits (fold (λ u a. after_timeout a.thread (wait_of (thread_at u.locks a.thread)) u) s expiries)
well_timeouts limits [] s well = well
well_timeouts limits (a ∷ expiries) s well = well_timeouts limits expiries (after_timeout a.thread (wait_of (thread_at s.locks a.thread)) s) (well_timeout limits a.thread s well)

-- each in the state that the one before left
pub well_expiries : (limits : Limits) (tick : ℕ) (s : Part) → IsWell limits s → IsWell limits (after_expiries tick s)
well_expiries limits tick s well = well_timeouts limits (in_order (due tick s)) s well

-- ---- expiries do not halt

status_timeout : (t : ℕ) (wait : Option Wait) (s : Part) → (after_timeout t wait s).status ≡ s.status
status_timeout t None s = refl
status_timeout t (Some InputWait) s = refl
status_timeout t (Some (SleepWait deadline)) s = refl
status_timeout t (Some (JoinWait u)) s = refl
status_timeout t (Some (MutexWait m deadline)) s = refl
status_timeout t (Some (ConditionWait c m deadline)) s = refl
status_timeout t (Some (RelockWait m reply)) s = refl

status_timeouts : (expiries : List Expiry) (s : Part) → (fold (λ u a. after_timeout a.thread (wait_of (thread_at u.locks a.thread)) u) s expiries).status ≡ s.status
status_timeouts [] s = refl
status_timeouts (a ∷ expiries) s = status_timeouts expiries (after_timeout a.thread (wait_of (thread_at s.locks a.thread)) s) ∙ status_timeout a.thread (wait_of (thread_at s.locks a.thread)) s

pub expiries_status : (tick : ℕ) (s : Part) → (after_expiries tick s).status ≡ s.status
expiries_status tick s = status_timeouts (in_order (due tick s)) s
