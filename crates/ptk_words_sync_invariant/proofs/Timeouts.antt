-- The expiries of a tick, and a condition variable set up and destroyed.
use Rattle.std.proofs.Common.{◌≡◌, ℕ, List, [], ◌∷◌, length, fold, refl, ◌∙◌, ap}
use Rattle.std.specs.Prelude.{false, nat_lt, Option, Some, None}
use Rattle.ptk_words.specs.Pools.{pool_get, pool_set}
use Rattle.ptk_words.specs.Faults.{errno_number}
use Rattle.ptk_words.specs.declared.faults.Errno.TheVariants.{ETIMEDOUT}
use Rattle.ptk_words.specs.declared.threads.Wait.{Wait}
use Rattle.ptk_words.specs.declared.threads.Wait.TheVariants.{InputWait, SleepWait, JoinWait, MutexWait, ConditionWait, RelockWait}
use Rattle.ptk_words.proofs.Lists.{empty_from_length}
use Rattle.ptk_words_model.specs.State.{Syncs, Part}
use Rattle.ptk_words_model.specs.Priority.{thread_at}
use Rattle.ptk_words.specs.Threads.{mutex_of_wait, condition_of_wait}
use Rattle.ptk_words_model.specs.Schedule.{woken_with, after_wake}
use Rattle.ptk_words_model.specs.Mutex.{wait_of, without_mutex_waiter}
use Rattle.ptk_words_model.specs.Condition.{condition_waiters, waiters_on}
use Rattle.ptk_words_model.specs.Withdrawal.{Expiry, in_order, due, after_timeout, after_expiries}
use Rattle.ptk_words_sync_invariant.specs.Conditions.{AreSyncs}
use Rattle.ptk_words_sync_invariant.proofs.Threads.{waking_woken, awaits_by}
use Rattle.ptk_words_sync_invariant.proofs.Handovers.{woken_out, held_leave}
use Rattle.ptk_words_sync_invariant.proofs.Gathered.{conditions_empty}
use Rattle.ptk_words_sync_invariant.proofs.Timed.{conditions_woken, timed_rest, held_syncs, syncs_held}
use Rattle.ptk_words_sync_invariant.proofs.ConditionWaits.{elsewhere_sleep}
use Rattle.ptk_words_sync_invariant.proofs.Relocks.{syncs_woken, syncs_unblock}

-- ---- the deadline of one thread comes

-- a sleeper is woken
pub syncs_sleep_end : (interval t deadline : ℕ) (values : List ℕ) (running : Option ℕ) (waiters : List ℕ) (syncs : Syncs) → wait_of (thread_at syncs.locks t) ≡ Some (SleepWait deadline) → AreSyncs interval running waiters syncs
    → AreSyncs interval running waiters (record syncs { locks = after_wake t values syncs.locks })
syncs_sleep_end interval t deadline values running waiters syncs waits are =
    syncs_woken interval t (woken_with values) (SleepWait deadline) running waiters syncs.conditions syncs (waking_woken values) waits refl (elsewhere_sleep deadline)
    (conditions_woken t (woken_with values) syncs.threads syncs.mutexes syncs.conditions (waking_woken values) (ap condition_of_wait waits) are.conditions) are

-- a timed lock fails
pub syncs_lock_end : (interval t m : ℕ) (deadline : Option ℕ) (values : List ℕ) (running : Option ℕ) (waiters : List ℕ) (syncs : Syncs) → wait_of (thread_at syncs.locks t) ≡ Some (MutexWait m deadline) → AreSyncs interval running waiters syncs
    → AreSyncs interval running waiters (record syncs { locks = after_wake t values (without_mutex_waiter t m syncs.locks) })
syncs_lock_end interval t m deadline values running waiters syncs waits are =
    syncs_held interval running waiters (woken_out (woken_with values) t m syncs.locks) syncs.conditions
    (held_leave interval t m (woken_with values) running (timed_rest waiters syncs.conditions) syncs.locks (waking_woken values) (awaits_by (thread_at syncs.locks t) ∙ ap mutex_of_wait waits) (held_syncs interval running waiters syncs are))

-- these wait for input, in a whole partition (own)
abbrev AreWhole : ℕ → Part → Type 0
AreWhole interval s = AreSyncs interval s.running s.console.waiters s.syncs

syncs_timeout_of : (interval t : ℕ) (wait : Option Wait) (s : Part) → wait_of (thread_at s.locks t) ≡ wait → AreWhole interval s → AreWhole interval (after_timeout t wait s)
syncs_timeout_of interval t None s e are = are
syncs_timeout_of interval t (Some InputWait) s e are = are
syncs_timeout_of interval t (Some (SleepWait deadline)) s e are = syncs_sleep_end interval t deadline (0 ∷ []) s.running s.console.waiters s.syncs e are
syncs_timeout_of interval t (Some (JoinWait u)) s e are = are
syncs_timeout_of interval t (Some (MutexWait m deadline)) s e are = syncs_lock_end interval t m deadline (errno_number ETIMEDOUT ∷ []) s.running s.console.waiters s.syncs e are
syncs_timeout_of interval t (Some (ConditionWait c m deadline)) s e are = syncs_unblock interval t c (Some (errno_number ETIMEDOUT)) s.running s.console.waiters s.syncs (ap condition_of_wait e) are
syncs_timeout_of interval t (Some (RelockWait m reply)) s e are = are

-- whatever the thread waits for
pub syncs_timeout : (interval t : ℕ) (s : Part) → AreSyncs interval s.running s.console.waiters s.syncs
    → AreSyncs interval (after_timeout t (wait_of (thread_at s.locks t)) s).running (after_timeout t (wait_of (thread_at s.locks t)) s).console.waiters (after_timeout t (wait_of (thread_at s.locks t)) s).syncs
syncs_timeout interval t s are = syncs_timeout_of interval t (wait_of (thread_at s.locks t)) s refl are

-- ---- all expiries of a tick

syncs_timeouts : (interval : ℕ) (expiries : List Expiry) (s : Part) → AreWhole interval s → AreWhole interval (fold (λ u a. after_timeout a.thread (wait_of (thread_at u.locks a.thread)) u) s expiries)
syncs_timeouts interval [] s are = are
syncs_timeouts interval (a ∷ expiries) s are = syncs_timeouts interval expiries (after_timeout a.thread (wait_of (thread_at s.locks a.thread)) s) (syncs_timeout interval a.thread s are)

-- each in the state that the one before left
pub syncs_expiries : (interval tick : ℕ) (s : Part) → AreSyncs interval s.running s.console.waiters s.syncs → AreSyncs interval (after_expiries tick s).running (after_expiries tick s).console.waiters (after_expiries tick s).syncs
syncs_expiries interval tick s are = syncs_timeouts interval (in_order (due tick s)) s are

-- ---- a condition variable set up and destroyed

-- at a free number (pthread_cond_init)
pub syncs_condition_init : (interval c : ℕ) (running : Option ℕ) (waiters : List ℕ) (syncs : Syncs) → pool_get syncs.conditions c ≡ None → AreSyncs interval running waiters syncs
    → AreSyncs interval running waiters (record syncs { conditions = pool_set syncs.conditions c (Some (record { waiters = [] })) })
syncs_condition_init interval c running waiters syncs free are = record {
  lined = are.lined;
  waiting = are.waiting;
  exclusion = are.exclusion;
  conditions = conditions_empty c (Some (record { waiters = [] })) syncs.threads syncs.mutexes syncs.conditions (ap waiters_on free) refl are.conditions;
  used = are.used;
}

-- where it has no waiters (pthread_cond_destroy, EBUSY)
pub syncs_condition_destroy : (interval c : ℕ) (running : Option ℕ) (waiters : List ℕ) (syncs : Syncs) → nat_lt 0 (length (condition_waiters syncs c)) ≡ false → AreSyncs interval running waiters syncs
    → AreSyncs interval running waiters (record syncs { conditions = pool_set syncs.conditions c None })
syncs_condition_destroy interval c running waiters syncs none are = record {
  lined = are.lined;
  waiting = are.waiting;
  exclusion = are.exclusion;
  conditions = conditions_empty c None syncs.threads syncs.mutexes syncs.conditions (empty_from_length (condition_waiters syncs c) none) refl are.conditions;
  used = are.used;
}
