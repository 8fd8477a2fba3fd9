-- Numbers that get free, and the end of a thread.
use Rattle.std.proofs.Common.{◌≡◌, ℕ, ◌<◌, Bool, true, false, ◌||◌, List, [], ◌∷◌, ◌++◌, refl, sym, ◌∙◌, ap, subst, inl, inr}
use Rattle.std.specs.Prelude.{◌≢◌, Option, Some, None, option_map, is_some, if◌then◌else◌}
use Rattle.std.specs.List.{list_any}
use Rattle.std.proofs.lemmas.Bool.{cases_eq, false≢true, false_from_ne_true}
use Rattle.std.proofs.lemmas.Option.{none-some}
use Rattle.ptk_words.specs.Pools.{pool_get, pool_set, pool_changed, is_in}
use Rattle.ptk_words.specs.declared.sections.Limits.{Limits}
use Rattle.ptk_words.specs.declared.faults.Status.TheVariants.{Exited}
use Rattle.ptk_words.specs.declared.threads.Thread.{Thread}
use Rattle.ptk_words.specs.declared.threads.Phase.TheVariants.{Ended}
use Rattle.ptk_words.specs.declared.threads.Wait.TheVariants.{JoinWait}
use Rattle.ptk_words.proofs.Pools.{get-set_other, free_own, length-pool_set, changed_own, changed_other, length-changed}
use Rattle.ptk_words.proofs.Lists.{out_push}
use Rattle.ptk_words_model.specs.State.{Mutex, Part, with_locks}
use Rattle.ptk_words_model.specs.Priority.{thread_at, awaited}
use Rattle.ptk_words_model.specs.Mutex.{mutex_at, wait_of, owns, after_owner_end}
use Rattle.ptk_words_model.specs.Schedule.{with_thread, woken_with, after_wake}
use Rattle.ptk_words_model.specs.Unwinding.{is_alive, after_join_by, without_thread, after_release, after_last_end, after_end}
use Rattle.ptk_words_sync_invariant.specs.Locks.{is_ready, joiner_of, used_of, AreMutexes}
use Rattle.ptk_words_sync_invariant.specs.Conditions.{AreListed, AreConditions, AreSyncs}
use Rattle.ptk_words.specs.Threads.{condition_of_wait}
use Rattle.ptk_words_invariant.specs.Well.{IsWell}
use Rattle.ptk_words_sync_invariant.proofs.Lined.{AreLined, AreOthers, ready_waits, ready_alive, not_ready_out, not_ready_stopped, lined_stopped, lined_others, lined_push}
use Rattle.ptk_words_sync_invariant.proofs.Threads.{changed_same, idle_awaits, waking_woken}
use Rattle.ptk_words_sync_invariant.proofs.Listed.{AreSameWaits, IsJoinChange, listed_same, listed_joined}
use Rattle.ptk_words_sync_invariant.proofs.Timed.{conditions_woken, syncs_owner_end, syncs_end_same, syncs_owns_none}
use Rattle.ptk_words_sync_invariant.proofs.ConditionsKept.{conditions_placed}
use Rattle.ptk_words_invariant.proofs.Synced.{syncs_of_well, well_syncs_by}
use Rattle.ptk_words_invariant.proofs.SyncSizes.{sized_owner_end}
use Rattle.ptk_words_invariant.proofs.Whole.{lined_of, waiting_of, well_scheduled, used_others}
use Rattle.ptk_words_invariant.proofs.Exclusion.{awaits_other, ended_owns, exclusion_unowning, conditions_waits}
use Rattle.ptk_words_invariant.proofs.Threads.{used_changed_at}
use Rattle.ptk_words_invariant.proofs.Parts.{well_halt}
use Rattle.ptk_words_invariant.proofs.Waits.{woken_ready, woken_waits, joiner_woken, exclusion_woken}
use Rattle.ptk_words_sync_invariant.proofs.Wakings.{waits_not_ready, waits_alive}

-- ---- a free number

-- what the thread of the freed number had no more of is had by none there
freed_same : {A : Type 0} (word : Option Thread → A) (u : ℕ) (threads : List (Option Thread)) → word None ≡ word (pool_get threads u) → (v : ℕ) → word (pool_get (pool_set threads u None) v) ≡ word (pool_get threads v)
freed_same word u threads here v = elim (cases_eq v u) [
  | inl same ↦ (rw same (ap word (free_own u threads) ∙ here))
  | inr ne ↦ ap word (get-set_other u v None threads ne)
]

freed_others : (u : ℕ) (threads : List (Option Thread)) → AreOthers u threads (pool_set threads u None)
freed_others u threads v ne = get-set_other u v None threads ne

freed_ended : (u : ℕ) (threads : List (Option Thread)) → ((v : ℕ) → is_alive (pool_get threads v) ≡ false → wait_of (pool_get threads v) ≡ None) → (v : ℕ) → is_alive (pool_get (pool_set threads u None) v) ≡ false → wait_of (pool_get (pool_set threads u None) v) ≡ None
freed_ended u threads ended v e = elim (cases_eq v u) [
  | inl same ↦ (rw same (ap wait_of (free_own u threads)))
  | inr ne ↦ ap wait_of (get-set_other u v None threads ne) ∙ ended v (sym (ap is_alive (get-set_other u v None threads ne)) ∙ e)
]

-- the mutexes where the thread of the freed number owned none and waited for none
exclusion_freed : (u : ℕ) (threads : List (Option Thread)) (mutexes : List (Option Mutex)) → wait_of (pool_get threads u) ≡ None → ((m : ℕ) → owns u (pool_get mutexes m) ≡ false) → AreMutexes threads mutexes → AreMutexes (pool_set threads u None) mutexes
exclusion_freed u threads mutexes free none are =
    exclusion_unowning u threads (pool_set threads u None) mutexes (freed_others u threads) (ap awaited (free_own u threads) ∙ sym (idle_awaits (pool_get threads u) free)) none are

-- a thread that neither waits nor is waited for, and owns no mutex, is gone; no thread runs, or another one
well_gone : (limits : Limits) (u : ℕ) (running : Option ℕ) (s : Part) → wait_of (thread_at s.locks u) ≡ None → joiner_of (thread_at s.locks u) ≡ None → is_in u s.line ≡ false → running ≢ Some u → AreLined s.threads s.line running
    → ((m : ℕ) → owns u (mutex_at s.locks m) ≡ false) → IsWell limits s
    → AreLined (pool_set s.threads u None) s.line running × AreListed (pool_set s.threads u None) s.console.waiters × AreMutexes (pool_set s.threads u None) s.mutexes × AreConditions (pool_set s.threads u None) s.mutexes s.conditions
well_gone limits u running s free single out stops lined none well =
    let after : List (Option Thread) = pool_set s.threads u None in
    let same : AreSameWaits s.threads after = record { wait = freed_same wait_of u s.threads (sym free); joiner = freed_same joiner_of u s.threads (sym single) } in
    let waiting : AreListed after s.console.waiters = listed_same s.threads after s.console.waiters same (freed_ended u s.threads well.ended_wait) (waiting_of limits s well) in
    (lined_others u s.threads after s.line running (freed_others u s.threads) out stops lined, waiting, exclusion_freed u s.threads s.mutexes free none well.exclusion, conditions_placed u None s.threads s.mutexes s.conditions free refl well.conditional)

used_freed : (n u : ℕ) (threads : List (Option Thread)) → ((t : ℕ) → used_of (pool_get threads t) < n) → (t : ℕ) → used_of (pool_get (pool_set threads u None) t) < n
used_freed n u threads each = used_others n u threads (pool_set threads u None) (freed_others u threads) (rw (free_own u threads) (each 0)) each

ended_not_ready : (o : Option Thread) → is_alive o ≡ false → is_ready o ≡ false
ended_not_ready o dead = false_from_ne_true (is_ready o) (λ ready. false≢true (sym dead ∙ ready_alive o ready))

-- the number of an ended thread for whose end no thread waits gets free
pub well_freed : (limits : Limits) (u : ℕ) (s : Part) → is_alive (thread_at s.locks u) ≡ false → joiner_of (thread_at s.locks u) ≡ None → IsWell limits s → IsWell limits (with_locks (without_thread u) s)
well_freed limits u s dead single well =
    let idle : is_ready (pool_get s.threads u) ≡ false = ended_not_ready (pool_get s.threads u) dead in
    let used : (t : ℕ) → used_of (pool_get (pool_set s.threads u None) t) < limits.interval = used_freed limits.interval u s.threads well.used in
    let parts : AreLined (pool_set s.threads u None) s.line s.running × AreListed (pool_set s.threads u None) s.console.waiters × AreMutexes (pool_set s.threads u None) s.mutexes × AreConditions (pool_set s.threads u None) s.mutexes s.conditions =
    well_gone limits u s.running s (well.ended_wait u dead) single (not_ready_out s.threads s.line s.running u (lined_of limits s well) idle) (not_ready_stopped s.threads s.line s.running u (lined_of limits s well) idle) (lined_of limits s well)
    (ended_owns u s.threads s.mutexes dead well.exclusion) well in
    well_scheduled limits s (pool_set s.threads u None) s.line s.mutexes s.running s.console.waiters (length-pool_set s.threads u None) refl parts.0 parts.1 parts.2 parts.3 used well.halted well

-- ---- the end of the running thread, where it owns no mutex

-- no thread runs after it
abbrev halting : Part → Part
halting s = record s { running = None }

-- a detached thread without a joiner
well_end_detached : (limits : Limits) (t : ℕ) (s : Part) → s.running ≡ Some t → joiner_of (thread_at s.locks t) ≡ None → ((m : ℕ) → owns t (mutex_at s.locks m) ≡ false) → IsWell limits s → IsWell limits (halting (with_locks (without_thread t) s))
well_end_detached limits t s runs single none well =
    let ready : is_ready (pool_get s.threads t) ≡ true = well.running_ready t runs in
    let used : (v : ℕ) → used_of (pool_get (pool_set s.threads t None) v) < limits.interval = used_freed limits.interval t s.threads well.used in
    let parts : AreLined (pool_set s.threads t None) s.line None × AreListed (pool_set s.threads t None) s.console.waiters × AreMutexes (pool_set s.threads t None) s.mutexes × AreConditions (pool_set s.threads t None) s.mutexes s.conditions =
    well_gone limits t None s (ready_waits (pool_get s.threads t) ready) single (well.running_out t runs) (none-some t) (lined_stopped s.threads s.line s.running (lined_of limits s well)) none well in
    well_scheduled limits s (pool_set s.threads t None) s.line s.mutexes None s.console.waiters (length-pool_set s.threads t None) refl parts.0 parts.1 parts.2 parts.3 used (λ e. refl) well

-- the thread has ended (own)
abbrev as_ended : Thread → Thread
as_ended thread = record thread { phase = Ended }

wait_as_ended : (o : Option Thread) → wait_of (option_map as_ended o) ≡ wait_of o
wait_as_ended None = refl
wait_as_ended (Some thread) = refl

joiner_as_ended : (o : Option Thread) → joiner_of (option_map as_ended o) ≡ joiner_of o
joiner_as_ended None = refl
joiner_as_ended (Some thread) = refl

awaited_as_ended : (o : Option Thread) → awaited (option_map as_ended o) ≡ awaited o
awaited_as_ended None = refl
awaited_as_ended (Some thread) = refl

-- a thread that stays for a joiner to come
well_end_kept : (limits : Limits) (t : ℕ) (s : Part) → s.running ≡ Some t → ((m : ℕ) → owns t (mutex_at s.locks m) ≡ false) → IsWell limits s → IsWell limits (halting (with_locks (with_thread t as_ended) s))
well_end_kept limits t s runs none well =
    let after : List (Option Thread) = pool_changed t as_ended s.threads in
    let ready : is_ready (pool_get s.threads t) ≡ true = well.running_ready t runs in
    let waits : (v : ℕ) → wait_of (pool_get after v) ≡ wait_of (pool_get s.threads v) = changed_same wait_of t as_ended s.threads (wait_as_ended (pool_get s.threads t)) in
    let same : AreSameWaits s.threads after = record { wait = waits; joiner = changed_same joiner_of t as_ended s.threads (joiner_as_ended (pool_get s.threads t)) } in
    let ended : (v : ℕ) → is_alive (pool_get after v) ≡ false → wait_of (pool_get after v) ≡ None = λ v e. waits v ∙ elim (cases_eq v t) [
      | inl one ↦ (rw one (ready_waits (pool_get s.threads t) ready))
      | inr ne ↦ well.ended_wait v (sym (ap is_alive (changed_other t v as_ended s.threads ne)) ∙ e)
    ] in
    well_scheduled limits s after s.line s.mutexes None s.console.waiters (length-changed t as_ended s.threads) refl
    (lined_others t s.threads after s.line None (λ v ne. changed_other t v as_ended s.threads ne) (well.running_out t runs) (none-some t) (lined_stopped s.threads s.line s.running (lined_of limits s well)))
    (listed_same s.threads after s.console.waiters same ended (waiting_of limits s well))
    (exclusion_unowning t s.threads after s.mutexes (λ v ne. changed_other t v as_ended s.threads ne) (ap awaited (changed_own t as_ended s.threads) ∙ awaited_as_ended (pool_get s.threads t)) none well.exclusion)
    (conditions_waits s.threads after s.mutexes s.conditions waits well.conditional)
    (used_changed_at limits.interval t as_ended s.threads well.used (λ thread e. let lt : used_of (pool_get s.threads t) < limits.interval = well.used t in rw e at lt))
    (λ e. refl) well

-- a thread whose end u waits for
well_end_joined : (limits : Limits) (t u : ℕ) (values : List ℕ) (s : Part) → s.running ≡ Some t → joiner_of (thread_at s.locks t) ≡ Some u → ((m : ℕ) → owns t (mutex_at s.locks m) ≡ false) → IsWell limits s
    → IsWell limits (halting (with_locks (λ locks. without_thread t (after_wake u values locks)) s))
well_end_joined limits t u values s runs joined none well =
    let middle : List (Option Thread) = pool_changed u (woken_with values) s.threads in
    let after : List (Option Thread) = pool_set middle t None in
    let ready : is_ready (pool_get s.threads t) ≡ true = well.running_ready t runs in
    let free : wait_of (pool_get s.threads t) ≡ None = ready_waits (pool_get s.threads t) ready in
    let waited : wait_of (pool_get s.threads u) ≡ Some (JoinWait t) = well.joiners_wait u t joined in
    let ne : u ≢ t = λ same. let one : wait_of (pool_get s.threads u) ≡ wait_of (pool_get s.threads t) = ap (λ v. wait_of (pool_get s.threads v)) same in let no : ⊥ = cc in no in
    let idle : is_ready (pool_get s.threads u) ≡ false = waits_not_ready (JoinWait t) (pool_get s.threads u) waited in
    let alive : is_alive (pool_get s.threads u) ≡ true = waits_alive (JoinWait t) (pool_get s.threads u) (well.ended_wait u) waited in
    let out : is_in u s.line ≡ false = not_ready_out s.threads s.line s.running u (lined_of limits s well) idle in
    let woken : wait_of (pool_get middle u) ≡ None = ap wait_of (changed_own u (woken_with values) s.threads) ∙ woken_waits values (pool_get s.threads u) in
    let middle_ended : (v : ℕ) → is_alive (pool_get middle v) ≡ false → wait_of (pool_get middle v) ≡ None = λ v e. elim (cases_eq v u) [
      | inl same ↦ (rw same woken)
      | inr other ↦ ap wait_of (changed_other u v (woken_with values) s.threads other) ∙ well.ended_wait v (sym (ap is_alive (changed_other u v (woken_with values) s.threads other)) ∙ e)
    ] in
    let middle_free : wait_of (pool_get middle t) ≡ None = ap wait_of (changed_other u t (woken_with values) s.threads (λ e. ne (sym e))) ∙ free in
    let middle_exclusion : AreMutexes middle s.mutexes = exclusion_woken u values s.threads s.mutexes (awaits_other (JoinWait t) (pool_get s.threads u) refl waited) well.exclusion in
    let middle_conditions : AreConditions middle s.mutexes s.conditions = conditions_woken u (woken_with values) s.threads s.mutexes s.conditions (waking_woken values) (ap condition_of_wait waited) well.conditional in
    let change : IsJoinChange u t s.threads after = record {
      wait = λ v other. freed_same wait_of t middle (sym middle_free) v ∙ ap wait_of (changed_other u v (woken_with values) s.threads other);
      joiner = λ v other. ap joiner_of (get-set_other t v None middle other) ∙ changed_same joiner_of u (woken_with values) s.threads (joiner_woken values (pool_get s.threads u)) v;
      ended = freed_ended t middle middle_ended;
    } in
    let lined : AreLined middle (s.line ++ u ∷ []) None =
    lined_push u middle s.line None (ap is_ready (changed_own u (woken_with values) s.threads) ∙ woken_ready values (pool_get s.threads u) alive) out (none-some u)
    (lined_others u s.threads middle s.line None (λ v other. changed_other u v (woken_with values) s.threads other) out (none-some u) (lined_stopped s.threads s.line s.running (lined_of limits s well))) in
    well_scheduled limits s after (s.line ++ u ∷ []) s.mutexes None s.console.waiters (length-pool_set middle t None ∙ length-changed u (woken_with values) s.threads) refl
    (lined_others t middle after (s.line ++ u ∷ []) None (freed_others t middle) (out_push u t s.line (λ e. ne (sym e)) (well.running_out t runs)) (none-some t) lined)
    (listed_joined u t s.threads after s.console.waiters change joined (ap wait_of (get-set_other t u None middle ne) ∙ woken) (ap joiner_of (free_own t middle)) (waiting_of limits s well))
    (exclusion_freed t middle s.mutexes middle_free none middle_exclusion)
    (conditions_placed t None middle s.mutexes s.conditions middle_free refl middle_conditions)
    (used_freed limits.interval t middle (used_changed_at limits.interval u (woken_with values) s.threads well.used (λ thread e. well.used 0)))
    (λ e. refl) well

-- ---- together

last_end_at : (limits : Limits) (s : Part) (b : Bool) → IsWell limits s → IsWell limits (if b then s else record s { status = Exited 0; running = None })
last_end_at limits s true well = well
last_end_at limits s false well = well_halt limits (Exited 0) s well

pub well_last_end : (limits : Limits) (s : Part) → IsWell limits s → IsWell limits (after_last_end s)
well_last_end limits s well = last_end_at limits s (list_any is_alive s.threads) well

release_at : (limits : Limits) (t : ℕ) (thread : Thread) (joiner : Option ℕ) (detached : Bool) (s : Part) → s.running ≡ Some t → joiner_of (thread_at s.locks t) ≡ joiner → ((m : ℕ) → owns t (mutex_at s.locks m) ≡ false) → IsWell limits s
    → IsWell limits (halting (with_locks (λ locks. if detached || is_some joiner then without_thread t (after_join_by joiner thread.result locks) else with_thread t (λ th. record th { phase = Ended }) locks) s))
release_at limits t thread None true s runs joined none well = well_end_detached limits t s runs joined none well
release_at limits t thread None false s runs joined none well = well_end_kept limits t s runs none well
release_at limits t thread (Some u) true s runs joined none well = well_end_joined limits t u (0 ∷ thread.result ∷ []) s runs joined none well
release_at limits t thread (Some u) false s runs joined none well = well_end_joined limits t u (0 ∷ thread.result ∷ []) s runs joined none well

released : (limits : Limits) (t : ℕ) (o : Option Thread) (s : Part) → thread_at s.locks t ≡ o → s.running ≡ Some t → ((m : ℕ) → owns t (mutex_at s.locks m) ≡ false) → IsWell limits s → IsWell limits (halting (with_locks (after_release t o) s))
released limits t None s there runs none well = absurd (false≢true (sym (ap is_ready there) ∙ well.running_ready t runs))
released limits t (Some thread) s there runs none well = release_at limits t thread thread.joiner thread.is_detached s runs (ap joiner_of there) none well

-- the running thread's end, where it owns no mutex
pub well_release : (limits : Limits) (t : ℕ) (s : Part) → s.running ≡ Some t → ((m : ℕ) → owns t (mutex_at s.locks m) ≡ false) → IsWell limits s → IsWell limits (record (with_locks (after_release t (thread_at s.locks t)) s) { running = None })
well_release limits t s runs none well = released limits t (thread_at s.locks t) s refl runs none well

-- the running thread waits for no mutex
running_awaits : (limits : Limits) (t : ℕ) (s : Part) → s.running ≡ Some t → IsWell limits s → awaited (thread_at s.locks t) ≡ None
running_awaits limits t s runs well = idle_awaits (thread_at s.locks t) (ready_waits (thread_at s.locks t) (well.running_ready t runs))

-- the running thread has given up its mutexes
pub well_owner_end : (limits : Limits) (t : ℕ) (s : Part) → s.running ≡ Some t → IsWell limits s → IsWell limits (with_locks (after_owner_end t) s)
well_owner_end limits t s runs well =
    well_syncs_by limits (λ syncs. record syncs { locks = after_owner_end t syncs.locks }) s (sized_owner_end t s.syncs)
    (syncs_owner_end limits.interval t s.running s.console.waiters s.syncs (running_awaits limits t s runs well) (syncs_of_well limits s well)) well

pub well_end : (limits : Limits) (t : ℕ) (s : Part) → s.running ≡ Some t → IsWell limits s → IsWell limits (after_end t s)
well_end limits t s runs well =
    let after : Part = with_locks (after_owner_end t) s in
    let free : awaited (thread_at s.locks t) ≡ None = running_awaits limits t s runs well in
    let are : AreSyncs limits.interval s.running s.console.waiters s.syncs = syncs_of_well limits s well in
    let same : thread_at after.locks t ≡ thread_at s.locks t = syncs_end_same limits.interval t s.running s.console.waiters s.syncs free are in
    let none : (m : ℕ) → owns t (mutex_at after.locks m) ≡ false = syncs_owns_none limits.interval t s.running s.console.waiters s.syncs free are in
    let family : Option Thread → Type 0 = λ (o : Option Thread). IsWell limits (after_last_end (halting (with_locks (after_release t o) after))) in
    subst family same (well_last_end limits (halting (with_locks (after_release t (thread_at after.locks t)) after)) (well_release limits t after runs none (well_owner_end limits t s runs well)))
