-- Threads that block and threads that are woken.
use Rattle.std.proofs.Common.{◌≡◌, ℕ, ◌<◌, true, false, List, [], ◌∷◌, ◌++◌, refl, sym, ◌∙◌, ap, ◌⊎◌, inl, inr}
use Rattle.std.specs.Prelude.{◌≢◌, Option, Some, None, option_map, fold}
use Rattle.std.proofs.lemmas.Bool.{cases_eq, false≢true}
use Rattle.std.proofs.lemmas.Option.{none-some}
use Rattle.ptk_words.specs.Pools.{pool_get, pool_changed, without, is_in}
use Rattle.ptk_words.specs.declared.sections.Limits.{Limits}
use Rattle.ptk_words.specs.declared.sections.Arrival.{Arrival}
use Rattle.ptk_words.specs.declared.threads.Thread.{Thread}
use Rattle.ptk_words.specs.declared.threads.Wait.{Wait}
use Rattle.ptk_words.specs.declared.threads.Wait.TheVariants.{InputWait, JoinWait}
use Rattle.ptk_words.proofs.Pools.{changed_own, changed_other, length-changed}
use Rattle.ptk_words.proofs.Lists.{first_in}
use Rattle.ptk_words_model.specs.State.{Mutex, Part, with_locks, with_console}
use Rattle.ptk_words_model.specs.Priority.{thread_at, effective_priority, awaited}
use Rattle.ptk_words.specs.Threads.{mutex_of_wait, condition_of_wait}
use Rattle.ptk_words_model.specs.Mutex.{wait_of}
use Rattle.ptk_words_model.specs.Schedule.{with_thread, woken_with, after_wake}
use Rattle.ptk_words_model.specs.Console.{with_waiter, without_waiter, without_arriving, arriving}
use Rattle.ptk_words_model.specs.Decision.{after_arrival_for, first_waiter, after_arrival, after_arrivals}
use Rattle.ptk_words_model.specs.Unwinding.{is_alive}
use Rattle.ptk_words_model.specs.declared.Invocation.{Invocation}
use Rattle.ptk_words_model.specs.Calls.{blocked_in}
use Rattle.ptk_words_sync_invariant.specs.Locks.{is_ready, joiner_of, used_of, AreMutexes}
use Rattle.ptk_words_invariant.specs.Well.{IsWell}
use Rattle.ptk_words_sync_invariant.proofs.Lined.{ready_waits, ready_alive, not_ready_out, not_ready_stopped, lined_stopped, lined_alike, lined_others, lined_push}
use Rattle.ptk_words_sync_invariant.proofs.Threads.{changed_same, idle_awaits, in_wait, in_wait_waits, in_wait_joiner, in_wait_alive, waking_woken}
use Rattle.ptk_words_sync_invariant.proofs.Listed.{IsWaitChange, IsJoinChange, listed_input, listed_answered, listed_join}
use Rattle.ptk_words_sync_invariant.proofs.Timed.{conditions_woken}
use Rattle.ptk_words_sync_invariant.proofs.ConditionsKept.{conditions_input, conditions_join, joined_with, joined_waits, joined_ready}
use Rattle.ptk_words_invariant.proofs.Whole.{lined_of, waiting_of, well_scheduled}
use Rattle.ptk_words_invariant.proofs.Exclusion.{awaits_other, exclusion_waits, exclusion_one}
use Rattle.ptk_words_invariant.proofs.Threads.{used_changed_at}
use Rattle.ptk_words_invariant.proofs.Parts.{well_input, well_arriving}
pub use Rattle.ptk_words_sync_invariant.proofs.Wakings.{waits_not_ready, waits_alive}
use Rattle.ptk_words_sync_invariant.proofs.Raising.{woken_awaits}

-- ---- what a wait makes of a thread

-- a wait that is for no mutex, where the thread waited for none
awaited_in_wait : (wait : Wait) (o : Option Thread) → mutex_of_wait (Some wait) ≡ None → awaited o ≡ None → awaited (option_map (in_wait wait) o) ≡ awaited o
awaited_in_wait wait None other e = refl
awaited_in_wait wait (Some thread) other e = other ∙ sym e

pub woken_ready : (values : List ℕ) (o : Option Thread) → is_alive o ≡ true → is_ready (option_map (woken_with values) o) ≡ true
woken_ready values None e = absurd (false≢true e)
woken_ready values (Some thread) e = e

pub woken_waits : (values : List ℕ) (o : Option Thread) → wait_of (option_map (woken_with values) o) ≡ None
woken_waits values None = refl
woken_waits values (Some thread) = refl

pub alive_woken : (values : List ℕ) (o : Option Thread) → is_alive (option_map (woken_with values) o) ≡ is_alive o
alive_woken values None = refl
alive_woken values (Some thread) = refl

pub joiner_woken : (values : List ℕ) (o : Option Thread) → joiner_of (option_map (woken_with values) o) ≡ joiner_of o
joiner_woken values None = refl
joiner_woken values (Some thread) = refl

-- ---- the mutexes

-- a thread begins a wait that is for no mutex, where it waited for nothing
exclusion_in_wait : (t : ℕ) (wait : Wait) (threads : List (Option Thread)) (mutexes : List (Option Mutex)) → mutex_of_wait (Some wait) ≡ None → wait_of (pool_get threads t) ≡ None
    → AreMutexes threads mutexes → AreMutexes (pool_changed t (in_wait wait) threads) mutexes
exclusion_in_wait t wait threads mutexes other free are =
    let own : pool_get (pool_changed t (in_wait wait) threads) t ≡ option_map (in_wait wait) (pool_get threads t) = changed_own t (in_wait wait) threads in
    exclusion_one t threads (pool_changed t (in_wait wait) threads) mutexes (λ u ne. changed_other t u (in_wait wait) threads ne)
    (ap awaited own ∙ awaited_in_wait wait (pool_get threads t) other (idle_awaits (pool_get threads t) free))
    (λ m e. ap is_alive own ∙ in_wait_alive wait (pool_get threads t) ∙ are.owners_alive m t e) are

-- a thread that waited for no mutex is woken
pub exclusion_woken : (t : ℕ) (values : List ℕ) (threads : List (Option Thread)) (mutexes : List (Option Mutex)) → awaited (pool_get threads t) ≡ None → AreMutexes threads mutexes
    → AreMutexes (pool_changed t (woken_with values) threads) mutexes
exclusion_woken t values threads mutexes free are =
    let own : pool_get (pool_changed t (woken_with values) threads) t ≡ option_map (woken_with values) (pool_get threads t) = changed_own t (woken_with values) threads in
    exclusion_one t threads (pool_changed t (woken_with values) threads) mutexes (λ u ne. changed_other t u (woken_with values) threads ne)
    (ap awaited own ∙ woken_awaits values (pool_get threads t) free)
    (λ m e. ap is_alive own ∙ alive_woken values (pool_get threads t) ∙ are.owners_alive m t e) are

-- ---- input

used_in_wait : (limits : Limits) (t : ℕ) (wait : Wait) (threads : List (Option Thread)) → ((u : ℕ) → used_of (pool_get threads u) < limits.interval) → (u : ℕ) → used_of (pool_get (pool_changed t (in_wait wait) threads) u) < limits.interval
used_in_wait limits t wait threads each =
    used_changed_at limits.interval t (in_wait wait) threads each (λ thread e. let lt : used_of (pool_get threads t) < limits.interval = each t in rw e at lt)

ended_in_wait : (t : ℕ) (wait : Wait) (threads : List (Option Thread)) → is_alive (pool_get threads t) ≡ true → ((u : ℕ) → is_alive (pool_get threads u) ≡ false → wait_of (pool_get threads u) ≡ None)
    → (u : ℕ) → is_alive (pool_get (pool_changed t (in_wait wait) threads) u) ≡ false → wait_of (pool_get (pool_changed t (in_wait wait) threads) u) ≡ None
ended_in_wait t wait threads alive ended u e =
    let was : is_alive (pool_get threads u) ≡ false = sym (changed_same is_alive t (in_wait wait) threads (in_wait_alive wait (pool_get threads t)) u) ∙ e in
    let ne : u ≢ t = λ same. false≢true (sym was ∙ ap (λ v. is_alive (pool_get threads v)) same ∙ alive) in
    ap wait_of (changed_other t u (in_wait wait) threads ne) ∙ ended u was

-- the running thread blocks as the console's last waiter
pub well_input_wait : (limits : Limits) (i : Invocation) (s : Part) → s.running ≡ Some i.caller → IsWell limits s → IsWell limits (blocked_in InputWait i (with_console (with_waiter i.caller) s)).part
well_input_wait limits i s runs well =
    let t : ℕ = i.caller in
    let after : List (Option Thread) = pool_changed t (in_wait InputWait) s.threads in
    let ready : is_ready (pool_get s.threads t) ≡ true = well.running_ready t runs in
    let change : IsWaitChange t s.threads after = record {
      wait = λ u ne. ap wait_of (changed_other t u (in_wait InputWait) s.threads ne);
      joiner = changed_same joiner_of t (in_wait InputWait) s.threads (in_wait_joiner InputWait (pool_get s.threads t));
      ended = ended_in_wait t InputWait s.threads (ready_alive (pool_get s.threads t) ready) well.ended_wait;
    } in
    well_scheduled limits s after s.line s.mutexes None (s.console.waiters ++ t ∷ []) (length-changed t (in_wait InputWait) s.threads) refl
    (lined_others t s.threads after s.line None (λ u ne. changed_other t u (in_wait InputWait) s.threads ne) (well.running_out t runs) (none-some t) (lined_stopped s.threads s.line s.running (lined_of limits s well)))
    (listed_input t s.threads after s.console.waiters change (ready_waits (pool_get s.threads t) ready) (ap wait_of (changed_own t (in_wait InputWait) s.threads) ∙ in_wait_waits InputWait (pool_get s.threads t) ready) (waiting_of limits s well))
    (exclusion_in_wait t InputWait s.threads s.mutexes refl (ready_waits (pool_get s.threads t) ready) well.exclusion)
    (conditions_input t s.threads s.mutexes s.conditions ready well.conditional)
    (used_in_wait limits t InputWait s.threads well.used)
    (λ e. refl) well

-- ---- waking

pub ended_woken : (t : ℕ) (values : List ℕ) (threads : List (Option Thread)) (u : ℕ) → (u ≡ t) ⊎ (u ≢ t) → ((u : ℕ) → is_alive (pool_get threads u) ≡ false → wait_of (pool_get threads u) ≡ None)
    → is_alive (pool_get (pool_changed t (woken_with values) threads) u) ≡ false → wait_of (pool_get (pool_changed t (woken_with values) threads) u) ≡ None
ended_woken t values threads u (inl same) ended e = rw same (ap wait_of (changed_own t (woken_with values) threads) ∙ woken_waits values (pool_get threads t))
ended_woken t values threads u (inr ne) ended e =
    ap wait_of (changed_other t u (woken_with values) threads ne) ∙ ended u (sym (ap is_alive (changed_other t u (woken_with values) threads ne)) ∙ e)

-- a waiter of the console is woken with a byte
pub well_answered : (limits : Limits) (t : ℕ) (values : List ℕ) (s : Part) → is_in t s.console.waiters ≡ true → IsWell limits s → IsWell limits (with_locks (after_wake t values) (with_console (without_waiter t) s))
well_answered limits t values s here well =
    let f : Thread → Thread = woken_with values in
    let after : List (Option Thread) = pool_changed t (woken_with values) s.threads in
    let was : wait_of (pool_get s.threads t) ≡ Some InputWait = well.waiters_wait t here in
    let idle : is_ready (pool_get s.threads t) ≡ false = waits_not_ready InputWait (pool_get s.threads t) was in
    let out : is_in t s.line ≡ false = not_ready_out s.threads s.line s.running t (lined_of limits s well) idle in
    let stops : s.running ≢ Some t = not_ready_stopped s.threads s.line s.running t (lined_of limits s well) idle in
    let alive : is_alive (pool_get s.threads t) ≡ true = waits_alive InputWait (pool_get s.threads t) (well.ended_wait t) was in
    let change : IsWaitChange t s.threads after = record {
      wait = λ u ne. ap wait_of (changed_other t u (woken_with values) s.threads ne);
      joiner = changed_same joiner_of t (woken_with values) s.threads (joiner_woken values (pool_get s.threads t));
      ended = λ u e. ended_woken t values s.threads u (cases_eq u t) well.ended_wait e;
    } in
    well_scheduled limits s after (s.line ++ t ∷ []) s.mutexes s.running (without t s.console.waiters) (length-changed t (woken_with values) s.threads) refl
    (lined_push t after s.line s.running (ap is_ready (changed_own t (woken_with values) s.threads) ∙ woken_ready values (pool_get s.threads t) alive) out stops
    (lined_others t s.threads after s.line s.running (λ u ne. changed_other t u (woken_with values) s.threads ne) out stops (lined_of limits s well)))
    (listed_answered t s.threads after s.console.waiters change was (ap wait_of (changed_own t (woken_with values) s.threads) ∙ woken_waits values (pool_get s.threads t)) (waiting_of limits s well))
    (exclusion_woken t values s.threads s.mutexes (awaits_other InputWait (pool_get s.threads t) refl was) well.exclusion)
    (conditions_woken t (woken_with values) s.threads s.mutexes s.conditions (waking_woken values) (ap condition_of_wait was) well.conditional)
    (used_changed_at limits.interval t (woken_with values) s.threads well.used (λ thread e. well.used 0))
    well.halted well

pub well_arrival_for : (limits : Limits) (o : Option ℕ) (byte : ℕ) (s : Part) → ((t : ℕ) → o ≡ Some t → is_in t s.console.waiters ≡ true) → IsWell limits s → IsWell limits (after_arrival_for o limits.ring byte s)
well_arrival_for limits None byte s here well = well_input limits byte s well
well_arrival_for limits (Some t) byte s here well = well_answered limits t (0 ∷ byte ∷ []) s (here t refl) well

pub well_arrival : (limits : Limits) (arrival : Arrival) (s : Part) → IsWell limits s → IsWell limits (after_arrival limits.ring s arrival)
well_arrival limits arrival s well = well_arrival_for limits (first_waiter s) arrival.byte s (λ t e. first_in (effective_priority s.locks) t s.console.waiters e) well

well_arrivals_of : (limits : Limits) (arrivals : List Arrival) (s : Part) → IsWell limits s → IsWell limits (fold (after_arrival limits.ring) s arrivals)
well_arrivals_of limits [] s well = well
well_arrivals_of limits (arrival ∷ arrivals) s well = well_arrivals_of limits arrivals (after_arrival limits.ring s arrival) (well_arrival limits arrival s well)

pub well_arrivals : (limits : Limits) (tick : ℕ) (s : Part) → IsWell limits s → IsWell limits (after_arrivals limits tick s)
well_arrivals limits tick s well = well_arrivals_of limits (arriving tick s.console) (with_console (without_arriving tick) s) (well_arriving limits tick s well)

-- ---- joins

alive_joined : (t : ℕ) (o : Option Thread) → is_alive (option_map (joined_with t) o) ≡ is_alive o
alive_joined t None = refl
alive_joined t (Some thread) = refl

-- the running thread blocks until u ends, where no thread waits for that yet
pub well_join_wait : (limits : Limits) (i : Invocation) (u : ℕ) (target : Thread) (s : Part) → s.running ≡ Some i.caller → thread_at s.locks u ≡ Some target → target.joiner ≡ None → IsWell limits s
    → IsWell limits (blocked_in (JoinWait u) i (with_locks (with_thread u (λ thread. record thread { joiner = Some i.caller })) s)).part
well_join_wait limits i u target s runs there free well =
    let t : ℕ = i.caller in
    let wait : Wait = JoinWait u in
    let middle : List (Option Thread) = pool_changed u (joined_with t) s.threads in
    let after : List (Option Thread) = pool_changed t (in_wait (JoinWait u)) middle in
    let ready : is_ready (pool_get s.threads t) ≡ true = well.running_ready t runs in
    let middle_ready : (v : ℕ) → is_ready (pool_get middle v) ≡ is_ready (pool_get s.threads v) = changed_same is_ready u (joined_with t) s.threads (joined_ready t (pool_get s.threads u)) in
    let middle_waits : (v : ℕ) → wait_of (pool_get middle v) ≡ wait_of (pool_get s.threads v) = changed_same wait_of u (joined_with t) s.threads (joined_waits t (pool_get s.threads u)) in
    let middle_alive : (v : ℕ) → is_alive (pool_get middle v) ≡ is_alive (pool_get s.threads v) = changed_same is_alive u (joined_with t) s.threads (alive_joined t (pool_get s.threads u)) in
    let after_joiner : (v : ℕ) → joiner_of (pool_get after v) ≡ joiner_of (pool_get middle v) = changed_same joiner_of t (in_wait (JoinWait u)) middle (in_wait_joiner (JoinWait u) (pool_get middle t)) in
    let single : joiner_of (pool_get s.threads u) ≡ None = ap joiner_of there ∙ free in
    let joined : joiner_of (pool_get middle u) ≡ Some t = ap joiner_of (changed_own u (joined_with t) s.threads ∙ ap (option_map (joined_with t)) there) in
    let change : IsJoinChange t u s.threads after = record {
      wait = λ v ne. ap wait_of (changed_other t v (in_wait (JoinWait u)) middle ne) ∙ middle_waits v;
      joiner = λ v ne. after_joiner v ∙ ap joiner_of (changed_other u v (joined_with t) s.threads ne);
      ended = ended_in_wait t (JoinWait u) middle (middle_alive t ∙ ready_alive (pool_get s.threads t) ready) (λ v e. middle_waits v ∙ well.ended_wait v (sym (middle_alive v) ∙ e));
    } in
    well_scheduled limits s after s.line s.mutexes None s.console.waiters (length-changed t (in_wait (JoinWait u)) middle ∙ length-changed u (joined_with t) s.threads) refl
    (lined_others t middle after s.line None (λ v ne. changed_other t v (in_wait (JoinWait u)) middle ne) (well.running_out t runs) (none-some t)
    (lined_alike s.threads middle s.line None middle_ready (lined_stopped s.threads s.line s.running (lined_of limits s well))))
    (listed_join t u s.threads after s.console.waiters change (ready_waits (pool_get s.threads t) ready) single
    (ap wait_of (changed_own t (in_wait (JoinWait u)) middle) ∙ in_wait_waits (JoinWait u) (pool_get middle t) (middle_ready t ∙ ready)) (after_joiner u ∙ joined) (waiting_of limits s well))
    (exclusion_in_wait t (JoinWait u) middle s.mutexes refl (middle_waits t ∙ ready_waits (pool_get s.threads t) ready) (exclusion_waits s.threads middle s.mutexes middle_waits middle_alive well.exclusion))
    (conditions_join t u s.threads s.mutexes s.conditions ready well.conditional)
    (used_in_wait limits t (JoinWait u) middle (used_changed_at limits.interval u (joined_with t) s.threads well.used (λ thread e. let lt : used_of (pool_get s.threads u) < limits.interval = well.used u in rw e at lt)))
    (λ e. refl) well
