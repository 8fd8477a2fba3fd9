-- Up to its stop a partition is quiet, and up to no later tick.
use Rattle.std.proofs.Common.{◌≡◌, ℕ, ◌+◌, ◌-◌, ◌≤◌, ◌<◌, Bool, true, false, List, [], ◌∷◌, length, cond, refl, sym, ◌∙◌, subst, arith, inl, inr}
use Rattle.std.specs.Prelude.{Option, Some, IfSome, IsSome, option_map, unwrap_or, min, slice_get, take_while, nat_le, if◌then◌else◌}
use Rattle.std.proofs.lemmas.Bool.{le-leb, false≢true, not-true}
use Rattle.std.proofs.lemmas.Bool.Decides.{leb_tells}
use Rattle.std.proofs.lemmas.List.Sums.{take_while-cons}
use Rattle.ptk_words.specs.Threads.{is_ended}
use Rattle.ptk_words.specs.declared.TheConstants.{RETURN_GATE}
use Rattle.ptk_words.specs.declared.sections.Arrival.{Arrival}
use Rattle.ptk_words.specs.declared.sections.Limits.{Limits}
use Rattle.ptk_words.specs.declared.threads.Thread.{Thread}
use Rattle.ptk_words.proofs.Lists.{first_in}
use Rattle.ptk_words_model.specs.State.{Part}
use Rattle.ptk_words_model.specs.Console.{is_due_at, arriving}
use Rattle.ptk_words_model.specs.Priority.{thread_at, effective_priority}
use Rattle.ptk_words_model.specs.Schedule.{first_ready, is_round_robin}
use Rattle.ptk_words_model.specs.Decision.{is_to_unwind}
use Rattle.ptk_words_model.specs.Unwinding.{is_alive}
use Rattle.ptk_words.specs.Faults.{is_active}
use Rattle.ptk_words_sync_invariant.specs.Locks.{used_of}
use Rattle.ptk_words_sync_invariant.proofs.Lined.{ready_alive}
use Rattle.ptk_words_invariant.specs.Well.{IsWell}
use Rattle.ptk_words_laws.specs.Quiet.{stays_before, IsQuiet}
use Rattle.ptk_words_laws.proofs.Arrivals.{none_before}
use Rattle.ptk_gate_moves.proofs.Ready.{lined_in_use}
use Rattle.ptk_words_model.specs.Withdrawal.{deadlines_of, due}
use Rattle.ptk_gate_steps.specs.QuietStops.{before_input, before_event, quiet_stop}
use Rattle.ptk_gate_steps.proofs.DeadlineStops.{before_deadline_le, none_due_before, deadline_no_later}

-- ---- the thread that is next in the line

-- the first thread of the line is in use
pub first_in_use : (limits : Limits) (s : Part) (o : Option ℕ) (t : ℕ) → IsWell limits s → o ≡ first_ready s.locks → o ≡ Some t → IsSome (thread_at s.locks t)
first_in_use limits s o t well chosen e = lined_in_use limits s t well (first_in (effective_priority s.locks) t s.line (sym chosen ∙ e))

-- ---- input

input_at_stop : (coming : List Arrival) (stop n : ℕ) → n ≤ unwrap_or (option_map (λ (a : Arrival). min a.tick stop) (slice_get coming 0)) stop → IfSome (slice_get coming 0) (λ (a : Arrival). n ≤ a.tick)
input_at_stop [] stop n le = tt
input_at_stop (a ∷ coming) stop n le = omega (arith, le)

input_le : (coming : List Arrival) (stop : ℕ) → unwrap_or (option_map (λ (a : Arrival). min a.tick stop) (slice_get coming 0)) stop ≤ stop
input_le [] stop = omega arith
input_le (a ∷ coming) stop = omega arith

first_not_due : (a : Arrival) (coming : List Arrival) → take_while (is_due_at a.tick) (a ∷ coming) ≡ [] → ⊥
first_not_due a coming e =
    let due : nat_le a.tick a.tick ≡ true = le-leb a.tick a.tick (omega arith) in
    let some : a ∷ take_while (is_due_at a.tick) coming ≡ [] = subst (λ (b : Bool). cond b (a ∷ take_while (is_due_at a.tick) coming) [] ≡ []) due (sym (take_while-cons (is_due_at a.tick) a coming) ∙ e) in
    let no : ⊥ = cc in
    no

none_until : (coming : List Arrival) (stop k : ℕ) → k ≤ stop → ((j : ℕ) → j < k → take_while (is_due_at j) coming ≡ []) → k ≤ unwrap_or (option_map (λ (a : Arrival). min a.tick stop) (slice_get coming 0)) stop
none_until [] stop k le none = le
none_until (a ∷ coming) stop k le none = elim (leb_tells k a.tick) [
  | inl up ↦ (let first : k ≤ a.tick = up.1 in omega (arith, first, le))
  | inr down ↦ absurd (first_not_due a coming (none a.tick down.1))
]

-- ---- the round-robin interval

interval_le : (robin : Bool) (at stop : ℕ) → (if robin then min at stop else stop) ≤ stop
interval_le true at stop = omega arith
interval_le false at stop = omega arith

interval_within : (robin : Bool) (interval tick used stop n : ℕ) → used < interval → n ≤ (if robin then min (tick + (interval - used - 1)) stop else stop) → robin ≡ true → used + n < interval + tick
interval_within true interval tick used stop n room le e = omega (arith, room, le)
interval_within false interval tick used stop n room le e = absurd (false≢true e)

interval_until : (robin : Bool) (interval tick used stop k : ℕ) → k ≤ stop → (robin ≡ true → used + k < interval + tick) → k ≤ (if robin then min (tick + (interval - used - 1)) stop else stop)
interval_until true interval tick used stop k le within = let lt : used + k < interval + tick = within refl in omega (arith, lt, le)
interval_until false interval tick used stop k le within = le

-- ---- input and deadlines

event_le : (stop : ℕ) (s : Part) → before_event s stop ≤ before_input s.console stop
event_le stop s = before_deadline_le (deadlines_of s.locks) (before_input s.console stop)

pub event_stop_le : (stop : ℕ) (s : Part) → before_event s stop ≤ stop
event_stop_le stop s =
    let inner : before_event s stop ≤ before_input s.console stop = event_le stop s in
    let outer : before_input s.console stop ≤ stop = input_le s.console.coming stop in
    omega (arith, inner, outer)

-- up to the stop no input comes
pub none_comes_before : (stop n : ℕ) (s : Part) → n ≤ before_event s stop → (k : ℕ) → k < n → arriving k s.console ≡ []
none_comes_before stop n s le =
    let up : before_event s stop ≤ before_input s.console stop = event_le stop s in
    none_before n s.console (input_at_stop s.console.coming stop n (omega (arith, le, up)))

-- and no deadline is due
pub none_expires_before : (stop n : ℕ) (s : Part) → n ≤ before_event s stop → (k : ℕ) → k < n → due k s ≡ []
none_expires_before stop n s le k lt = none_due_before 1 (before_input s.console stop) n k (deadlines_of s.locks) le lt

-- and so up to no later tick
pub event_no_later : (stop k : ℕ) (s : Part) → k ≤ stop → ((j : ℕ) → j < k → arriving j s.console ≡ []) → ((j : ℕ) → j < k → due j s ≡ []) → k ≤ before_event s stop
event_no_later stop k s le comes expires = deadline_no_later 1 (before_input s.console stop) k (deadlines_of s.locks) (none_until s.console.coming stop k le comes) expires

-- ---- the stop

pub stop_le : (limits : Limits) (tick stop : ℕ) (thread : Thread) (s : Part) → quiet_stop limits tick thread s stop ≤ stop
stop_le limits tick stop thread s =
    let inner : quiet_stop limits tick thread s stop ≤ before_event s stop = interval_le (is_round_robin thread.policy) (tick + (limits.interval - thread.used - 1)) (before_event s stop) in
    let outer : before_event s stop ≤ stop = event_stop_le stop s in
    omega (arith, inner, outer)

-- a whole partition is quiet up to its stop
pub quiet_up : (limits : Limits) (tick stop n t : ℕ) (thread : Thread) (s : Part) → is_active s.status ≡ true → IsWell limits s → length s.memory ≤ RETURN_GATE
    → s.running ≡ Some t → thread_at s.locks t ≡ Some thread → is_to_unwind s t thread ≡ false → stays_before (effective_priority s.locks) t (first_ready s.locks) ≡ true
    → n ≡ quiet_stop limits tick thread s stop → IsQuiet limits tick n t thread s
quiet_up limits tick stop n t thread s active well gate runs in_use goes stays e =
    let alive : is_alive (Some thread) ≡ true = subst (λ (o : Option Thread). is_alive o ≡ true) in_use (ready_alive (thread_at s.locks t) (well.running_ready t runs)) in
    let room : thread.used < limits.interval = subst (λ (o : Option Thread). used_of o < limits.interval) in_use (well.used t) in
    let inner : n ≤ before_event s stop =
    subst (λ (m : ℕ). m ≤ before_event s stop) (sym e) (interval_le (is_round_robin thread.policy) (tick + (limits.interval - thread.used - 1)) (before_event s stop))
    in
    let same : n ≤ n = omega arith in
    let up : n ≤ quiet_stop limits tick thread s stop = subst (λ (m : ℕ). n ≤ m) e same in
    record {
      active = active;
      none_comes = none_comes_before stop n s inner;
      none_expires = none_expires_before stop n s inner;
      chosen = stays;
      running = runs;
      in_use = in_use;
      lives = not-true (is_ended thread.phase) alive;
      goes_on = goes;
      within = interval_within (is_round_robin thread.policy) limits.interval tick thread.used (before_event s stop) n room up;
      gate = gate;
    }

-- and up to no later tick
pub quiet_no_later : (limits : Limits) (tick stop k t : ℕ) (thread : Thread) (s : Part) → IsQuiet limits tick k t thread s → k ≤ stop → k ≤ quiet_stop limits tick thread s stop
quiet_no_later limits tick stop k t thread s quiet le =
    interval_until (is_round_robin thread.policy) limits.interval tick thread.used (before_event s stop) k (event_no_later stop k s le quiet.none_comes quiet.none_expires) quiet.within
