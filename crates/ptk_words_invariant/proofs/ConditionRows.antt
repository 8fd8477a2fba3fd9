-- Each call on a condition variable leaves the state whole.
use Rattle.std.proofs.Common.{◌≡◌, ℕ, true, false, [], length, refl}
use Rattle.std.specs.Prelude.{IsSome, Option, Some, None, nat_lt, nat_le}
use Rattle.ptk_words.specs.Pools.{pool_get, pool_set, least_free}
use Rattle.ptk_words.specs.Faults.{errno_number}
use Rattle.ptk_words.specs.declared.TheConstants.{DESTROYED}
use Rattle.ptk_words.specs.declared.faults.Errno.TheVariants.{EPERM, ENOMEM, EFAULT, EBUSY, EINVAL, ETIMEDOUT}
use Rattle.ptk_words.specs.declared.sections.Limits.{Limits}
use Rattle.ptk_words.specs.declared.threads.Wait.TheVariants.{RelockWait}
use Rattle.ptk_words.proofs.Pools.{length-pool_set}
use Rattle.ptk_words_model.specs.declared.Invocation.{Invocation}
use Rattle.ptk_words_model.specs.State.{Syncs, Part, with_locks, with_syncs}
use Rattle.ptk_words_model.specs.Mutex.{mutex_at, owns, relock_move, after_unlock}
use Rattle.ptk_words_model.specs.Condition.{condition_waiters, names_another, after_condition_wait, after_signal, after_broadcast}
use Rattle.ptk_words_model.specs.Time.{Timespec, timespec_at, is_timespec, deadline_of}
use Rattle.ptk_words_model.specs.Calls.{Answer, blocked, is_pointer, with_pool_condition, with_stored}
use Rattle.ptk_words_model.specs.ConditionCalls.{cond_init, cond_destroy, may_wait, cond_wait, late_wait_answer, cond_timedwait, cond_signal, cond_broadcast}
use Rattle.ptk_words_model.specs.Steps.{mutex_named}
use Rattle.ptk_words_sync_invariant.proofs.ConditionWaits.{syncs_condition_wait, syncs_late_wait}
use Rattle.ptk_words_sync_invariant.proofs.Relocks.{syncs_signal, syncs_broadcast}
use Rattle.ptk_words_sync_invariant.proofs.Timeouts.{syncs_condition_destroy}
use Rattle.ptk_words_invariant.specs.Rests.{destroy_condition_named, signal_named, broadcast_named, wait_named, timedwait_named}
use Rattle.ptk_words_invariant.specs.Well.{IsWell}
use Rattle.ptk_words_invariant.proofs.Synced.{syncs_of_well, running_syncs, well_syncs_by, well_syncs_blocked}
use Rattle.ptk_words_invariant.proofs.SyncSizes.{sized_signal, sized_broadcast, sized_condition_wait}
use Rattle.ptk_words_invariant.proofs.Steps.{well_success, either_well, well_when, well_unless, well_given, Keeps}
use Rattle.ptk_words_invariant.proofs.MutexCalls.{well_stored, well_unlock}
use Rattle.ptk_words_invariant.proofs.NamedRows.{still_pointer, well_mutex_named, well_new_condition, well_condition_named}
use Rattle.ptk_words_invariant.proofs.TimeRows.{well_uncancelled, well_move}

-- ---- calls 30 and 31: set up and destroyed

pub well_cond_init : Keeps cond_init
well_cond_init i s runs well =
    well_unless i.limits EFAULT (is_pointer s i.a0 4) _ i s well
    (λ within. well_given i.limits (least_free s.conditions) ENOMEM _ i s well
    (λ c free. let made : Part = with_pool_condition c (Some (record { waiters = [] })) s in
    well_success i.limits [] i (with_stored i.a0 c made) (well_stored i.limits i.a0 c made within (well_new_condition i.limits c s free well))))

-- the number of a condition variable without waiters gets free
well_no_condition : (limits : Limits) (c : ℕ) (s : Part) → nat_lt 0 (length (condition_waiters s.syncs c)) ≡ false → IsWell limits s → IsWell limits (with_pool_condition c None s)
well_no_condition limits c s none well =
    let destroyed : Syncs → Syncs = λ syncs. record syncs { conditions = pool_set syncs.conditions c None } in
    well_syncs_by limits destroyed s (record { threads = refl; mutexes = refl; conditions = length-pool_set s.conditions c None })
    (syncs_condition_destroy limits.interval c s.running s.console.waiters s.syncs none (syncs_of_well limits s well)) well

pub well_cond_destroy : Keeps cond_destroy
well_cond_destroy i s runs well =
    well_unless i.limits EFAULT (is_pointer s i.a0 4) _ i s well
    (λ within. well_condition_named i.a0 i s destroy_condition_named runs within well
    (λ c u kept used well. well_when i.limits EBUSY (nat_lt 0 (length (condition_waiters u.syncs c))) _ i u well
    (λ none. let without_it : Part = with_pool_condition c None u in
    well_success i.limits [] i (with_stored i.a0 DESTROYED without_it) (well_stored i.limits i.a0 DESTROYED without_it (still_pointer i s u i.a0 4 kept within) (well_no_condition i.limits c u none well)))))

-- ---- calls 32 and 33: waits

-- the two checks of a wait
well_may_wait : (c m : ℕ) (rest : Answer) (i : Invocation) (s : Part) → IsWell i.limits s → (owns i.caller (mutex_at s.locks m) ≡ true → IsWell i.limits rest.part) → IsWell i.limits (may_wait c m (λ _ _. rest) i s).part
well_may_wait c m rest i s well goes =
    well_unless i.limits EPERM (owns i.caller (mutex_at s.locks m)) _ i s well (λ own. well_when i.limits EINVAL (names_another s.syncs c m) rest i s well (λ alike. goes own))

-- the caller waits on a condition variable in use, and has released its mutex
well_condition_wait : (c m : ℕ) (deadline : Option ℕ) (i : Invocation) (s : Part) → s.running ≡ Some i.caller → owns i.caller (mutex_at s.locks m) ≡ true → IsSome (pool_get s.conditions c) → IsWell i.limits s
    → IsWell i.limits (blocked (with_syncs (after_condition_wait i.caller c m deadline) s)).part
well_condition_wait c m deadline i s runs own used well =
    well_syncs_blocked i.limits (after_condition_wait i.caller c m deadline) s (sized_condition_wait i.caller c m deadline s.syncs)
    (syncs_condition_wait i.limits.interval i.caller c m deadline s.console.waiters s.syncs own used (running_syncs i.limits i.caller s runs well)) well

pub well_cond_wait : Keeps cond_wait
well_cond_wait i s runs well =
    well_unless i.limits EFAULT (is_pointer s i.a0 4) _ i s well
    (λ condition. well_unless i.limits EFAULT (is_pointer s i.a1 4) _ i s well
    (λ mutex. well_uncancelled _ i s runs well
    (well_condition_named i.a0 i s (λ c. mutex_named i.a1 (wait_named c)) runs condition well
    (λ c u named used well. well_mutex_named i.a1 i u (wait_named c) named.runs (still_pointer i s u i.a1 4 named mutex) well
    (λ m v kept well. well_may_wait c m _ i v well
    (λ own. well_condition_wait c m None i v kept.runs own (kept.conditions c used) well))))))

-- the mutex is released and locked again, or waited for
well_late_wait : (m : ℕ) (i : Invocation) (s : Part) → s.running ≡ Some i.caller → owns i.caller (mutex_at s.locks m) ≡ true → IsWell i.limits s → IsWell i.limits (late_wait_answer m i s).part
well_late_wait m i s runs own well =
    let released : Part = with_locks (after_unlock m) s in
    let reply : Option ℕ = Some (errno_number ETIMEDOUT) in
    well_move (relock_move i.caller (mutex_at released.locks m)) m (errno_number ETIMEDOUT) (RelockWait m reply) i released runs
    (syncs_late_wait i.limits.interval i.caller m reply s.console.waiters s.syncs own (running_syncs i.limits i.caller s runs well))
    (well_unlock i.limits m s well)

pub well_cond_timedwait : Keeps cond_timedwait
well_cond_timedwait i s runs well =
    well_unless i.limits EFAULT (is_pointer s i.a0 4) _ i s well
    (λ condition. well_unless i.limits EFAULT (is_pointer s i.a1 4) _ i s well
    (λ mutex. well_unless i.limits EFAULT (is_pointer s i.a2 12) _ i s well
    (λ timed. well_uncancelled _ i s runs well
    (well_condition_named i.a0 i s (λ c. mutex_named i.a1 (timedwait_named c)) runs condition well
    (λ c u named used well. well_mutex_named i.a1 i u (timedwait_named c) named.runs (still_pointer i s u i.a1 4 named mutex) well
    (λ m v kept well. well_may_wait c m _ i v well
    (λ own. let time : Timespec = timespec_at v.memory i.a2 in
    well_unless i.limits EINVAL (is_timespec time) _ i v well
    (λ valid. either_well i.limits (nat_le (deadline_of time) i.tick) (late_wait_answer m i v) (blocked (with_syncs (after_condition_wait i.caller c m (Some (deadline_of time))) v))
    (λ past. well_late_wait m i v kept.runs own well) (λ ahead. well_condition_wait c m (Some (deadline_of time)) i v kept.runs own (kept.conditions c used) well)))))))))

-- ---- calls 34 and 35: signal and broadcast

pub well_cond_signal : Keeps cond_signal
well_cond_signal i s runs well =
    well_unless i.limits EFAULT (is_pointer s i.a0 4) _ i s well
    (λ within. well_condition_named i.a0 i s signal_named runs within well
    (λ c u kept used well. well_success i.limits [] i (with_syncs (after_signal c) u)
    (well_syncs_by i.limits (after_signal c) u (sized_signal c u.syncs) (syncs_signal i.limits.interval c u.running u.console.waiters u.syncs (syncs_of_well i.limits u well)) well)))

pub well_cond_broadcast : Keeps cond_broadcast
well_cond_broadcast i s runs well =
    well_unless i.limits EFAULT (is_pointer s i.a0 4) _ i s well
    (λ within. well_condition_named i.a0 i s broadcast_named runs within well
    (λ c u kept used well. well_success i.limits [] i (with_syncs (after_broadcast c) u)
    (well_syncs_by i.limits (after_broadcast c) u (sized_broadcast c u.syncs) (syncs_broadcast i.limits.interval c u.running u.console.waiters u.syncs (syncs_of_well i.limits u well)) well)))
