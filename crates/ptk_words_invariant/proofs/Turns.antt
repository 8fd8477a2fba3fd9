-- Places in the line, the choice of the running thread and round-robin intervals.
use Rattle.std.proofs.Common.{◌≡◌, ℕ, ◌+◌, Bool, true, false, ◌&&◌, List, [], ◌∷◌, ◌++◌, refl, sym, ◌∙◌, ap, inl, inr}
use Rattle.std.specs.Prelude.{◌≢◌, Option, Some, None, nat_eq, nat_lt, nat_le, ◌==◌, if◌then◌else◌}
use Rattle.std.specs.List.{list_any}
use Rattle.std.proofs.lemmas.Bool.{cases_eq, false≢true, eq-eqb, ne_eqb, leb-false, and_parts, or_right}
use Rattle.std.proofs.lemmas.Option.{none-some}
use Rattle.ptk_words.specs.Pools.{pool_changed, without, is_in}
use Rattle.ptk_words.specs.declared.sections.Limits.{Limits}
use Rattle.ptk_words.specs.declared.threads.Thread.{Thread}
use Rattle.ptk_words.proofs.Pools.{length-changed}
use Rattle.ptk_words.proofs.Lists.{without_own, first_in}
use Rattle.ptk_words_model.specs.State.{Part, with_locks}
use Rattle.ptk_words_model.specs.Priority.{thread_at, effective_priority}
use Rattle.ptk_words_model.specs.Mutex.{owns_raising}
use Rattle.ptk_words_model.specs.Schedule.{unused, at_tail, at_head, first_ready, after_dispatch, after_choice_between, after_choice, is_round_robin, is_running, after_turn_end, with_thread_used, after_interval}
use Rattle.ptk_words_model.specs.ThreadCalls.{after_placing, after_placing_at_tail}
use Rattle.ptk_words.specs.Faults.{is_active}
use Rattle.ptk_words_model.proofs.Runners.{runner_is}
use Rattle.ptk_words_sync_invariant.specs.Locks.{is_ready}
use Rattle.ptk_words_invariant.specs.Well.{IsWell}
use Rattle.ptk_words_sync_invariant.proofs.Lined.{AreLined, lined_stopped, lined_alike, lined_push, lined_head, lined_without, lined_dispatch}
use Rattle.ptk_words_sync_invariant.proofs.Listed.{AreSameWaits, listed_same}
use Rattle.ptk_words_invariant.proofs.Whole.{lined_of, waiting_of, well_scheduled}
use Rattle.ptk_words_invariant.proofs.Exclusion.{exclusion_waits, conditions_waits}
use Rattle.ptk_words_invariant.proofs.Threads.{AreAlike, alike_changed, used_changed_at, well_used}

-- ---- the line alone

-- another line and another running thread
pub well_lined : (limits : Limits) (line : List ℕ) (running : Option ℕ) (s : Part) → AreLined s.threads line running → (is_active s.status ≡ false → running ≡ None) → IsWell limits s
    → IsWell limits (record s { syncs = record (s.syncs) { locks = record (s.locks) { line = line } }; running = running })
well_lined limits line running s lined halted well =
    well_scheduled limits s s.threads line s.mutexes running s.console.waiters refl refl lined (waiting_of limits s well) well.exclusion well.conditional well.used halted well

-- ---- a thread with no ticks used

unused_alike : (t : ℕ) (threads : List (Option Thread)) → AreAlike threads (pool_changed t unused threads)
unused_alike t threads = alike_changed t unused threads (λ thread e. record { wait = refl; joiner = refl; ended = refl })

-- at the tail of a line in which it is not, while another or no thread runs
pub well_tail : (limits : Limits) (t : ℕ) (line : List ℕ) (running : Option ℕ) (s : Part) → AreLined s.threads line running → is_ready (thread_at s.locks t) ≡ true → is_in t line ≡ false → running ≢ Some t
    → (is_active s.status ≡ false → running ≡ None) → IsWell limits s
    → IsWell limits (record s { syncs = record (s.syncs) { locks = record (s.locks) { threads = pool_changed t unused s.threads; line = line ++ t ∷ [] } }; running = running })
well_tail limits t line running s lined ready out stops halted well =
    let after : List (Option Thread) = pool_changed t unused s.threads in
    let alike : AreAlike s.threads after = unused_alike t s.threads in
    let same : AreSameWaits s.threads after = record { wait = alike.wait; joiner = alike.joiner } in
    well_scheduled limits s after (line ++ t ∷ []) s.mutexes running s.console.waiters (length-changed t unused s.threads) refl
    (lined_push t after line running (alike.ready t ∙ ready) out stops (lined_alike s.threads after line running alike.ready lined))
    (listed_same s.threads after s.console.waiters same (λ u e. alike.wait u ∙ well.ended_wait u (sym (alike.alive u) ∙ e)) (waiting_of limits s well))
    (exclusion_waits s.threads after s.mutexes alike.wait alike.alive well.exclusion)
    (conditions_waits s.threads after s.mutexes s.conditions alike.wait well.conditional)
    (used_changed_at limits.interval t unused s.threads well.used (λ thread e. well.used 0))
    halted well

-- the running thread goes to the tail
pub well_turn_end : (limits : Limits) (t : ℕ) (s : Part) → s.running ≡ Some t → IsWell limits s → IsWell limits (after_turn_end t s)
well_turn_end limits t s runs well =
    well_tail limits t s.line None s (lined_stopped s.threads s.line s.running (lined_of limits s well)) (well.running_ready t runs) (well.running_out t runs) (none-some t) (λ e. refl) well

-- ---- placing

eqb_turned : (t u : ℕ) → (u == t) ≡ nat_eq t u
eqb_turned t u = elim (cases_eq u t) [
  | inl same ↦ eq-eqb u t same ∙ sym (eq-eqb t u (sym same))
  | inr ne ↦ ne_eqb u t ne ∙ sym (ne_eqb t u (λ e. ne (sym e)))
]

pub any_is_in : (t : ℕ) (ts : List ℕ) → list_any (λ u. u == t) ts ≡ is_in t ts
any_is_in t ts = ap (λ (p : ℕ → Bool). list_any p ts) (λ i u. eqb_turned t u i)

in_line_stops : (limits : Limits) (t : ℕ) (s : Part) → is_in t s.line ≡ true → IsWell limits s → s.running ≢ Some t
in_line_stops limits t s here well = λ runs. false≢true (sym (well.running_out t runs) ∙ here)

tail_at : (limits : Limits) (t : ℕ) (s : Part) (a b : Bool) → is_running t s.running ≡ a → list_any (λ u. u == t) s.line ≡ b → IsWell limits s
    → IsWell limits (if a then (let out : Part = with_locks (at_tail t) s in record out { running = None }) else if b then with_locks (λ locks. at_tail t (record locks { line = without t locks.line })) s else s)
tail_at limits t s true b runs here well = well_turn_end limits t s (runner_is t s.running runs) well
tail_at limits t s false true runs here well =
    let inside : is_in t s.line ≡ true = sym (any_is_in t s.line) ∙ here in
    well_tail limits t (without t s.line) s.running s (lined_without t s.threads s.line s.running (lined_of limits s well)) (well.line_ready t inside) (without_own t s.line)
    (in_line_stops limits t s inside well) well.halted well
tail_at limits t s false false runs here well = well

pub well_placing_tail : (limits : Limits) (t : ℕ) (s : Part) → IsWell limits s → IsWell limits (after_placing at_tail t s)
well_placing_tail limits t s well = tail_at limits t s (is_running t s.running) (list_any (λ u. u == t) s.line) refl refl well

head_at : (limits : Limits) (t : ℕ) (s : Part) (a b : Bool) → is_running t s.running ≡ a → list_any (λ u. u == t) s.line ≡ b → IsWell limits s
    → IsWell limits (if a then (let out : Part = with_locks (at_head t) s in record out { running = None }) else if b then with_locks (λ locks. at_head t (record locks { line = without t locks.line })) s else s)
head_at limits t s true b runs here well =
    let running : s.running ≡ Some t = runner_is t s.running runs in
    well_lined limits (t ∷ s.line) None s
    (lined_head t s.threads s.line None (well.running_ready t running) (well.running_out t running) (none-some t) (lined_stopped s.threads s.line s.running (lined_of limits s well))) (λ e. refl) well
head_at limits t s false true runs here well =
    let inside : is_in t s.line ≡ true = sym (any_is_in t s.line) ∙ here in
    well_lined limits (t ∷ without t s.line) s.running s
    (lined_head t s.threads (without t s.line) s.running (well.line_ready t inside) (without_own t s.line) (in_line_stops limits t s inside well) (lined_without t s.threads s.line s.running (lined_of limits s well))) well.halted well
head_at limits t s false false runs here well = well

pub well_placing_head : (limits : Limits) (t : ℕ) (s : Part) → IsWell limits s → IsWell limits (after_placing at_head t s)
well_placing_head limits t s well = head_at limits t s (is_running t s.running) (list_any (λ u. u == t) s.line) refl refl well

placing_tail_at : (limits : Limits) (t : ℕ) (s : Part) (b : Bool) → IsWell limits s → IsWell limits (if b then s else after_placing at_tail t s)
placing_tail_at limits t s true well = well
placing_tail_at limits t s false well = well_placing_tail limits t s well

pub well_placing_at_tail : (limits : Limits) (t : ℕ) (s : Part) → IsWell limits s → IsWell limits (after_placing_at_tail t s)
well_placing_at_tail limits t s well = placing_tail_at limits t s (owns_raising s.locks t) well

-- ---- the choice

active_runs : (s : Part) (running : Option ℕ) → is_active s.status ≡ true → is_active s.status ≡ false → running ≡ None
active_runs s running active halted = absurd (false≢true (sym halted ∙ active))

-- a thread of the line runs, where none did
pub well_dispatch : (limits : Limits) (t : ℕ) (s : Part) → is_in t s.line ≡ true → is_active s.status ≡ true → IsWell limits s → IsWell limits (after_dispatch t s)
well_dispatch limits t s here active well =
    well_lined limits (without t s.line) (Some t) s (lined_dispatch t s.threads s.line s.running here (lined_of limits s well)) (active_runs s (Some t) active) well

-- a thread of the line runs, and the one that ran stands first in the line
pub well_preempt : (limits : Limits) (r t : ℕ) (s : Part) → s.running ≡ Some r → is_in t s.line ≡ true → is_active s.status ≡ true → IsWell limits s → IsWell limits (after_dispatch t (with_locks (at_head r) s))
well_preempt limits r t s runs here active well =
    let first : AreLined s.threads (r ∷ s.line) None =
    lined_head r s.threads s.line None (well.running_ready r runs) (well.running_out r runs) (none-some r) (lined_stopped s.threads s.line s.running (lined_of limits s well)) in
    well_lined limits (without t (r ∷ s.line)) (Some t) s (lined_dispatch t s.threads (r ∷ s.line) None (or_right (nat_eq t r) (is_in t s.line) here) first) (active_runs s (Some t) active) well

preempt_at : (limits : Limits) (r t : ℕ) (s : Part) (b : Bool) → s.running ≡ Some r → is_in t s.line ≡ true → is_active s.status ≡ true → IsWell limits s → IsWell limits (if b then after_dispatch t (with_locks (at_head r) s) else s)
preempt_at limits r t s true runs here active well = well_preempt limits r t s runs here active well
preempt_at limits r t s false runs here active well = well

choice_at : (limits : Limits) (s : Part) (running first : Option ℕ) → s.running ≡ running → ((t : ℕ) → first ≡ Some t → is_in t s.line ≡ true) → is_active s.status ≡ true → IsWell limits s → IsWell limits (after_choice_between running first s)
choice_at limits s None None runs here active well = well
choice_at limits s (Some r) None runs here active well = well
choice_at limits s None (Some t) runs here active well = well_dispatch limits t s (here t refl) active well
choice_at limits s (Some r) (Some t) runs here active well = preempt_at limits r t s (nat_lt (effective_priority s.locks r) (effective_priority s.locks t)) runs (here t refl) active well

pub well_choice : (limits : Limits) (s : Part) → is_active s.status ≡ true → IsWell limits s → IsWell limits (after_choice s)
well_choice limits s active well = choice_at limits s s.running (first_ready s.locks) refl (λ t e. first_in (effective_priority s.locks) t s.line e) active well

-- ---- intervals

interval_at : (limits : Limits) (cost t : ℕ) (thread : Thread) (s : Part) (b : Bool) → nat_le limits.interval (thread.used + cost) ≡ b → s.running ≡ Some t → IsWell limits s
    → IsWell limits (if b then after_turn_end t s else with_thread_used t (thread.used + cost) s)
interval_at limits cost t thread s true e runs well = well_turn_end limits t s runs well
interval_at limits cost t thread s false e runs well = well_used limits t (thread.used + cost) s (leb-false limits.interval (thread.used + cost) e) well

running_at : (limits : Limits) (cost t : ℕ) (thread : Thread) (s : Part) (b : Bool) → (b ≡ true → s.running ≡ Some t) → IsWell limits s
    → IsWell limits (if b then (if nat_le limits.interval (thread.used + cost) then after_turn_end t s else with_thread_used t (thread.used + cost) s) else s)
running_at limits cost t thread s true runs well = interval_at limits cost t thread s (nat_le limits.interval (thread.used + cost)) refl (runs refl) well
running_at limits cost t thread s false runs well = well

pub well_interval : (limits : Limits) (cost t : ℕ) (o : Option Thread) (s : Part) → IsWell limits s → IsWell limits (after_interval limits.interval cost t o s)
well_interval limits cost t None s well = well
well_interval limits cost t (Some thread) s well =
    running_at limits cost t thread s (is_running t s.running && is_round_robin thread.policy) (λ e. runner_is t s.running (and_parts (is_running t s.running) (is_round_robin thread.policy) e).0) well
