-- A thread that is cancelled in a wait, whatever it waits for, leaves the state whole.
use Rattle.std.proofs.Common.{◌≡◌, ℕ, ◌<◌, true, false, List, [], ◌∷◌, ◌++◌, refl, sym, ◌∙◌, ap}
use Rattle.std.specs.Prelude.{◌≢◌, Option, Some, None, option_map}
use Rattle.std.proofs.lemmas.Bool.{cases_eq}
use Rattle.ptk_words.specs.Pools.{pool_get, pool_changed, is_in}
use Rattle.ptk_words.specs.declared.sections.Limits.{Limits}
use Rattle.ptk_words.specs.declared.threads.Thread.{Thread}
use Rattle.ptk_words.specs.declared.threads.Wait.{Wait}
use Rattle.ptk_words.specs.declared.threads.Wait.TheVariants.{InputWait, SleepWait, JoinWait, MutexWait, ConditionWait, RelockWait}
use Rattle.ptk_words.proofs.Pools.{changed_own, changed_other, length-changed}
use Rattle.ptk_words_model.specs.State.{Part, with_locks, with_syncs, with_console}
use Rattle.ptk_words_model.specs.Priority.{thread_at}
use Rattle.ptk_words_model.specs.Mutex.{wait_of}
use Rattle.ptk_words_model.specs.Condition.{after_unblock}
use Rattle.ptk_words_model.specs.Console.{without_waiter}
use Rattle.ptk_words_model.specs.Schedule.{woken_with, after_wake}
use Rattle.ptk_words_model.specs.Unwinding.{is_alive}
use Rattle.ptk_words_model.specs.Withdrawal.{with_mark, without_joiner, after_cancelled_wait}
use Rattle.ptk_words_sync_invariant.specs.Locks.{is_ready, joiner_of, used_of}
use Rattle.ptk_words.specs.Threads.{condition_of_wait}
use Rattle.ptk_words_sync_invariant.proofs.Lined.{AreLined, not_ready_out, not_ready_stopped, lined_alike, lined_others, lined_push}
use Rattle.ptk_words_sync_invariant.proofs.Threads.{changed_same, waking_woken}
use Rattle.ptk_words_sync_invariant.proofs.Listed.{IsJoinChange, listed_joined}
use Rattle.ptk_words_sync_invariant.proofs.Timed.{conditions_woken}
use Rattle.ptk_words_invariant.specs.Well.{IsWell}
use Rattle.ptk_words_invariant.proofs.Whole.{lined_of, waiting_of, well_scheduled}
use Rattle.ptk_words_invariant.proofs.Exclusion.{awaits_other, exclusion_waits, conditions_waits}
use Rattle.ptk_words_invariant.proofs.Threads.{used_changed_at}
use Rattle.ptk_words_invariant.proofs.Waits.{woken_ready, woken_waits, joiner_woken, exclusion_woken, ended_woken, well_answered}
use Rattle.ptk_words_invariant.proofs.Unwindings.{well_cancellation}
use Rattle.ptk_words_invariant.proofs.Timeouts.{well_sleep_end, well_wait_end}
use Rattle.ptk_words_sync_invariant.proofs.Wakings.{waits_not_ready, waits_alive}

-- the next step of the thread begins its unwinding
pub well_mark : (limits : Limits) (t : ℕ) (s : Part) → IsWell limits s → IsWell limits (with_mark t s)
well_mark limits t s well = well_cancellation limits t (λ c. record c { is_marked = true }) s well

-- ---- a joiner

-- the thread that nobody joins (own)
abbrev pub unjoined : Thread → Thread
unjoined thread = record thread { joiner = None }

ready_unjoined : (o : Option Thread) → is_ready (option_map unjoined o) ≡ is_ready o
ready_unjoined None = refl
ready_unjoined (Some thread) = refl

wait_unjoined : (o : Option Thread) → wait_of (option_map unjoined o) ≡ wait_of o
wait_unjoined None = refl
wait_unjoined (Some thread) = refl

alive_unjoined : (o : Option Thread) → is_alive (option_map unjoined o) ≡ is_alive o
alive_unjoined None = refl
alive_unjoined (Some thread) = refl

single_unjoined : (o : Option Thread) → joiner_of (option_map unjoined o) ≡ None
single_unjoined None = refl
single_unjoined (Some thread) = refl

-- a joiner leaves its target, which can be joined again, and is woken
pub well_join_end : (limits : Limits) (t u : ℕ) (values : List ℕ) (s : Part) → wait_of (thread_at s.locks t) ≡ Some (JoinWait u) → IsWell limits s
    → IsWell limits (with_locks (λ locks. after_wake t values (without_joiner u locks)) s)
well_join_end limits t u values s waits well =
    let middle : List (Option Thread) = pool_changed u unjoined s.threads in
    let after : List (Option Thread) = pool_changed t (woken_with values) middle in
    let middle_ready : (v : ℕ) → is_ready (pool_get middle v) ≡ is_ready (pool_get s.threads v) = changed_same is_ready u unjoined s.threads (ready_unjoined (pool_get s.threads u)) in
    let middle_waits : (v : ℕ) → wait_of (pool_get middle v) ≡ wait_of (pool_get s.threads v) = changed_same wait_of u unjoined s.threads (wait_unjoined (pool_get s.threads u)) in
    let middle_alive : (v : ℕ) → is_alive (pool_get middle v) ≡ is_alive (pool_get s.threads v) = changed_same is_alive u unjoined s.threads (alive_unjoined (pool_get s.threads u)) in
    let waited : wait_of (pool_get middle t) ≡ Some (JoinWait u) = middle_waits t ∙ waits in
    let idle : is_ready (pool_get s.threads t) ≡ false = waits_not_ready (JoinWait u) (pool_get s.threads t) waits in
    let alive : is_alive (pool_get middle t) ≡ true = middle_alive t ∙ waits_alive (JoinWait u) (pool_get s.threads t) (well.ended_wait t) waits in
    let out : is_in t s.line ≡ false = not_ready_out s.threads s.line s.running t (lined_of limits s well) idle in
    let stops : s.running ≢ Some t = not_ready_stopped s.threads s.line s.running t (lined_of limits s well) idle in
    let after_joiner : (v : ℕ) → joiner_of (pool_get after v) ≡ joiner_of (pool_get middle v) = changed_same joiner_of t (woken_with values) middle (joiner_woken values (pool_get middle t)) in
    let change : IsJoinChange t u s.threads after = record {
      wait = λ v ne. ap wait_of (changed_other t v (woken_with values) middle ne) ∙ middle_waits v;
      joiner = λ v ne. after_joiner v ∙ ap joiner_of (changed_other u v unjoined s.threads ne);
      ended = λ v e. ended_woken t values middle v (cases_eq v t) (λ w dead. middle_waits w ∙ well.ended_wait w (sym (middle_alive w) ∙ dead)) e;
    } in
    let lined : AreLined middle s.line s.running = lined_alike s.threads middle s.line s.running middle_ready (lined_of limits s well) in
    well_scheduled limits s after (s.line ++ t ∷ []) s.mutexes s.running s.console.waiters (length-changed t (woken_with values) middle ∙ length-changed u unjoined s.threads) refl
    (lined_push t after s.line s.running (ap is_ready (changed_own t (woken_with values) middle) ∙ woken_ready values (pool_get middle t) alive) out stops
    (lined_others t middle after s.line s.running (λ v ne. changed_other t v (woken_with values) middle ne) out stops lined))
    (listed_joined t u s.threads after s.console.waiters change (well.joins_listed t u waits) (ap wait_of (changed_own t (woken_with values) middle) ∙ woken_waits values (pool_get middle t))
    (after_joiner u ∙ ap joiner_of (changed_own u unjoined s.threads) ∙ single_unjoined (pool_get s.threads u)) (waiting_of limits s well))
    (exclusion_woken t values middle s.mutexes (awaits_other (JoinWait u) (pool_get middle t) refl waited) (exclusion_waits s.threads middle s.mutexes middle_waits middle_alive well.exclusion))
    (conditions_woken t (woken_with values) middle s.mutexes s.conditions (waking_woken values) (ap condition_of_wait waited) (conditions_waits s.threads middle s.mutexes s.conditions middle_waits well.conditional))
    (used_changed_at limits.interval t (woken_with values) middle
    (used_changed_at limits.interval u unjoined s.threads well.used (λ thread e. let lt : used_of (pool_get s.threads u) < limits.interval = well.used u in rw e at lt)) (λ thread e. well.used 0))
    well.halted well

-- ---- whatever the thread waits for

-- the thread is taken out of this wait, which is its own
pub well_cancelled_in : (limits : Limits) (t : ℕ) (wait : Option Wait) (s : Part) → wait_of (thread_at s.locks t) ≡ wait → IsWell limits s → IsWell limits (after_cancelled_wait t wait s)
well_cancelled_in limits t None s e well = well
well_cancelled_in limits t (Some InputWait) s e well =
    well_mark limits t (with_locks (after_wake t []) (with_console (without_waiter t) s)) (well_answered limits t [] s (well.waits_listed t e) well)
well_cancelled_in limits t (Some (SleepWait deadline)) s e well = well_mark limits t (with_locks (after_wake t []) s) (well_sleep_end limits t deadline [] s e well)
well_cancelled_in limits t (Some (JoinWait u)) s e well =
    well_mark limits t (with_locks (λ locks. after_wake t [] (without_joiner u locks)) s) (well_join_end limits t u [] s e well)
well_cancelled_in limits t (Some (MutexWait m deadline)) s e well = well
well_cancelled_in limits t (Some (ConditionWait c m deadline)) s e well = well_mark limits t (with_syncs (after_unblock t c None) s) (well_wait_end limits t c m deadline None s e well)
well_cancelled_in limits t (Some (RelockWait m reply)) s e well = well
