-- A decision that is seen in nothing but the tick of the next one is that of a partition that has nothing to do.
use Rattle.std.proofs.Common.{◌≡◌, ℕ, zero, suc, ◌+◌, ◌≤◌, Bool, true, false, List, [], ◌∷◌, length, drop, take, Option, Some, None, refl, sym, ap, subst, ◌∙◌, arith, length-drop}
use Rattle.std.specs.Prelude.{if◌then◌else◌, IfSome, fold, nat_le, nat_lt, slice_get, take_while}
use Rattle.std.specs.List.{prefix_len}
use Rattle.std.proofs.lemmas.Bool.{cond_both, false≢true}
use Rattle.std.proofs.lemmas.Option.{MatchOption-at_none}
use Rattle.ptk_words.specs.declared.sections.Arrival.{Arrival}
use Rattle.ptk_words.specs.declared.sections.Limits.{Limits}
use Rattle.ptk_words.specs.declared.threads.Thread.{Thread}
use Rattle.ptk_words.specs.declared.threads.Wait.{Wait}
use Rattle.ptk_words.specs.declared.threads.Wait.TheVariants.{InputWait, SleepWait, JoinWait, MutexWait, ConditionWait, RelockWait}
use Rattle.ptk_words.proofs.Lists.{first_none, empty_from_no_first}
use Rattle.ptk_words_model.specs.Windows.{OwnTicks}
use Rattle.ptk_words_model.specs.declared.Runner.{Runner}
use Rattle.ptk_words_model.specs.declared.Spent.{Spent}
use Rattle.ptk_words_model.specs.declared.Spent.TheVariants.{Step, Idle, Lost}
use Rattle.ptk_words_model.specs.State.{Console, Part, State, with_console, with_locks}
use Rattle.ptk_words_model.specs.Priority.{effective_priority, thread_at}
use Rattle.ptk_words_model.specs.Mutex.{wait_of}
use Rattle.ptk_words_model.specs.Schedule.{after_choice_between, after_dispatch, at_head, first_ready}
use Rattle.ptk_words_model.specs.Withdrawal.{Expiry, after_expiries, after_timeout, deadlines_of, due, in_order, in_order_with, expires_before}
use Rattle.ptk_words_model.specs.Console.{arriving, is_due_at, without_arriving}
use Rattle.ptk_words_model.specs.Decision.{after_arrival, after_arrivals, after_decision, after_turn, Decision, first_waiter, ready_at, runner_at, runner_in, runner_of, spent_by_decision, spent_in_turn, step_cost, step_kind}
use Rattle.ptk_words_model.specs.Run.{accounted, decided}
use Rattle.ptk_words.specs.Faults.{is_active}
use Rattle.ptk_words_sync_invariant.specs.Expiries.{IsLeastDue, IsNoneDue, after_expiry, after_next_expiry, next_expiry}
use Rattle.ptk_words_sync_invariant.proofs.Expiries.{in_turn, next_least, next_only, one_at_a_time}
use Rattle.ptk_words_sync_invariant.specs.Locks.{is_ready}
use Rattle.ptk_words_invariant.specs.Well.{IsWell}
use Rattle.ptk_words_invariant.proofs.Decisions.{arrival_coming}
use Rattle.ptk_words_laws.specs.Idle.{IsIdle}
use Rattle.ptk_words_laws.proofs.Arrivals.{none_before}
use Rattle.ptk_words_laws.proofs.PlainDecisions.{no_arrivals}
use Rattle.ptk_system.specs.World.{but_next}

-- ---- the input still to come

coming_arrivals : (limit : ℕ) (arrivals : List Arrival) (s : Part) → (fold (after_arrival limit) s arrivals).console.coming ≡ s.console.coming
coming_arrivals limit [] s = refl
coming_arrivals limit (a ∷ arrivals) s = coming_arrivals limit arrivals (after_arrival limit s a) ∙ arrival_coming (first_waiter s) limit a.byte s

console_timeout : (t : ℕ) (wait : Option Wait) (s : Part) → (after_timeout t wait s).console ≡ s.console
console_timeout t None s = refl
console_timeout t (Some InputWait) s = refl
console_timeout t (Some (SleepWait deadline)) s = refl
console_timeout t (Some (JoinWait u)) s = refl
console_timeout t (Some (MutexWait m deadline)) s = refl
console_timeout t (Some (ConditionWait c m deadline)) s = refl
console_timeout t (Some (RelockWait m reply)) s = refl

console_expiries : (xs : List Expiry) (s : Part) → (fold (λ u a. after_timeout a.thread (wait_of (thread_at u.locks a.thread)) u) s xs).console ≡ s.console
console_expiries [] s = refl
console_expiries (a ∷ xs) s = console_expiries xs (after_timeout a.thread (wait_of (thread_at s.locks a.thread)) s) ∙ console_timeout a.thread (wait_of (thread_at s.locks a.thread)) s

no_arriving : (tick : ℕ) (coming : List Arrival) → drop (length (take_while (is_due_at tick) coming)) coming ≡ coming → take_while (is_due_at tick) coming ≡ []
no_arriving tick [] e = refl
no_arriving tick (a ∷ coming) e = by (nat_le a.tick tick) e
  where
    by : (b : Bool) → drop (length (take (if b then 1 + prefix_len (is_due_at tick) coming else 0) (a ∷ coming))) (a ∷ coming) ≡ a ∷ coming → take (if b then 1 + prefix_len (is_due_at tick) coming else 0) (a ∷ coming) ≡ []
    by false e = refl
    by true e =
        let one : 1 + prefix_len (is_due_at tick) coming ≡ suc (prefix_len (is_due_at tick) coming) = omega arith in
        let rest : drop (length (take (prefix_len (is_due_at tick) coming) coming)) coming ≡ a ∷ coming =
        subst (λ (m : ℕ). drop (length (take m (a ∷ coming))) (a ∷ coming) ≡ a ∷ coming) one e in
        absurd (omega (arith, ap length rest, length-drop (length (take (prefix_len (is_due_at tick) coming) coming)) coming))

first_later : (tick : ℕ) (coming : List Arrival) → take_while (is_due_at tick) coming ≡ [] → IfSome (slice_get coming 0) (λ a. tick + 1 ≤ a.tick)
first_later tick [] e = tt
first_later tick (a ∷ coming) e = by (nat_le a.tick tick) refl e
  where
    by : (b : Bool) → nat_le a.tick tick ≡ b → take (if b then 1 + prefix_len (is_due_at tick) coming else 0) (a ∷ coming) ≡ [] → tick + 1 ≤ a.tick
    by false at e = grind (arith, at)
    by true at e =
        let one : 1 + prefix_len (is_due_at tick) coming ≡ suc (prefix_len (is_due_at tick) coming) = omega arith in
        let some : a ∷ take (prefix_len (is_due_at tick) coming) coming ≡ [] = subst (λ (m : ℕ). take m (a ∷ coming) ≡ []) one e in
        absurd cc

-- ---- the deadlines

in_order_some : (a : Expiry) (xs : List Expiry) → in_order_with expires_before a xs ≡ [] → ⊥
in_order_some a [] e = cc
in_order_some a (b ∷ bs) e = by (expires_before a b) e
  where
    by : (c : Bool) → (if c then a ∷ b ∷ bs else b ∷ in_order_with expires_before a bs) ≡ [] → ⊥
    by true e = cc
    by false e = cc

in_order_none : (xs : List Expiry) → in_order xs ≡ [] → xs ≡ []
in_order_none [] e = refl
in_order_none (a ∷ xs) e = absurd (in_order_some a (in_order xs) e)

-- after the expiries of a tick no deadline is due
expired_by : (n tick : ℕ) (s : Part) → length (in_order (due tick s)) ≡ n → (o : Option Expiry) → next_expiry tick (deadlines_of s.locks) ≡ o → next_expiry tick (deadlines_of (after_expiries tick s).locks) ≡ None
expired_by n tick s e None none =
    ap (λ (u : Part). next_expiry tick (deadlines_of u.locks)) (one_at_a_time tick s ∙ ap (λ (o : Option Expiry). after_next_expiry tick o s) none) ∙ none
expired_by zero tick s e (Some a) some = absurd (omega (arith, e, ap length (in_turn tick a s some).later))
expired_by (suc n) tick s e (Some a) some =
    ap (λ (u : Part). next_expiry tick (deadlines_of u.locks)) (one_at_a_time tick s ∙ ap (λ (o : Option Expiry). after_next_expiry tick o s) some)
    ∙ expired_by n tick (after_expiry a s) (omega (arith, e, ap length (in_turn tick a s some).later)) (next_expiry tick (deadlines_of (after_expiry a s).locks)) refl

expired : (tick : ℕ) (s : Part) → next_expiry tick (deadlines_of (after_expiries tick s).locks) ≡ None
expired tick s = expired_by (length (in_order (due tick s))) tick s refl (next_expiry tick (deadlines_of s.locks)) refl

-- where none is due at a tick, none is at an earlier one
none_due : (tick k : ℕ) (s : Part) → next_expiry tick (deadlines_of s.locks) ≡ None → k ≤ tick → due k s ≡ []
none_due tick k s none le =
    let later : IsNoneDue tick (deadlines_of s.locks) = MatchOption-at_none (IsNoneDue tick (deadlines_of s.locks)) (IsLeastDue tick (deadlines_of s.locks)) none (next_least tick (deadlines_of s.locks)) in
    let first : None ≡ next_expiry k (deadlines_of s.locks) = next_only k (deadlines_of s.locks) None (λ t deadline at. omega (arith, later t deadline at, le)) in
    in_order_none (due k s) (empty_from_no_first (in_order (due k s)) (sym first))

-- ---- the choice

-- of a partition in which no thread runs after the choice, it changed nothing, and none is ready
none_chosen : (running first : Option ℕ) (s : Part) → (after_choice_between running first s).running ≡ None → s.running ≡ running → (first ≡ None) × (after_choice_between running first s ≡ s)
none_chosen running None s none same = (refl, refl)
none_chosen None (Some t) s none same = absurd cc
none_chosen (Some r) (Some t) s none same = absurd (by (nat_lt (effective_priority s.locks r) (effective_priority s.locks t)) none)
  where
    by : (b : Bool) → (if b then after_dispatch t (with_locks (at_head r) s) else s).running ≡ None → ⊥
    by true h = cc
    by false h = cc (h, same)

none_runs : (limits : Limits) (s : Part) → IsWell limits s → (o : Option ℕ) → s.running ≡ o → runner_in o s ≡ None → o ≡ None
none_runs limits s well None e none = refl
none_runs limits s well (Some t) e none = by (thread_at s.locks t) (well.running_ready t e) none
  where
    by : (o : Option Thread) → is_ready o ≡ true → runner_at t o ≡ None → Some t ≡ None
    by None ready h = absurd (false≢true ready)
    by (Some thread) ready h = absurd cc

-- ---- the decision

idle_turn : (limits : Limits) (tick room : ℕ) (o : Option Runner) (s : Part) → spent_in_turn limits tick room o s ≡ Idle → o ≡ None
idle_turn limits tick room None s = λ e. refl
idle_turn limits tick room (Some r) s =
    cond_both (nat_lt room (step_cost (step_kind s r.number r.thread))) _ _ (λ (d : Decision). d.spent ≡ Idle → Some r ≡ None) (λ e h. absurd cc) (λ e h. absurd cc)

-- an idle decision that changes nothing is that of a partition that has nothing to do up to the next tick
still_part : (limits : Limits) (tick room : ℕ) (s : Part) → IsWell limits s → is_active s.status ≡ true → spent_by_decision limits tick room s ≡ Idle → after_decision limits tick room s ≡ s → IsIdle (tick + 1) s
still_part limits tick room s well active spent same = record {
  active = active;
  running = idles;
  line = first_none (effective_priority s.locks) s.line (sym (ap (λ (u : Part). first_ready u.locks) settled) ∙ chosen.0);
  none_comes = λ k lt. none_before (tick + 1) s.console (first_later tick s.console.coming none_arrives) k lt;
  none_expires = λ k lt. none_due tick k s (sym (ap (λ (u : Part). next_expiry tick (deadlines_of u.locks)) expires) ∙ expired tick s) (omega (arith, lt));
}
  where
    ready : Part
    ready = ready_at limits tick s

    mid : Part
    mid = after_expiries tick (after_arrivals limits tick s)

    nobody : runner_of (ready_at limits tick s) ≡ None
    nobody = idle_turn limits tick room (runner_of (ready_at limits tick s)) (ready_at limits tick s) spent

    stays : ready_at limits tick s ≡ s
    stays = sym (ap (λ (o : Option Runner). after_turn limits tick room o (ready_at limits tick s)) nobody) ∙ same

    idles : s.running ≡ None
    idles = none_runs limits s well s.running refl (sym (ap runner_of stays) ∙ nobody)

    chosen : (first_ready mid.locks ≡ None) × (after_choice_between mid.running (first_ready mid.locks) mid ≡ mid)
    chosen = none_chosen mid.running (first_ready mid.locks) mid (ap (λ (u : Part). u.running) stays ∙ idles) refl

    settled : mid ≡ s
    settled = sym chosen.1 ∙ stays

    none_arrives : arriving tick s.console ≡ []
    none_arrives =
        no_arriving tick s.console.coming
        (sym (ap (λ (c : Console). c.coming) (console_expiries (in_order (due tick (after_arrivals limits tick s))) (after_arrivals limits tick s)) ∙ coming_arrivals limits.ring (arriving tick s.console) (with_console (without_arriving tick) s))
        ∙ ap (λ (u : Part). u.console.coming) settled)

    expires : after_expiries tick s ≡ s
    expires = sym (ap (after_expiries tick) (no_arrivals limits tick s none_arrives)) ∙ settled

-- a decision of which nothing is seen but the tick of the next one is that of a partition that has nothing to do up to the next tick
pub still_idle : (ticks : OwnTicks) (limits : Limits) (tick room : ℕ) (s : State) → IsWell limits s.part → is_active s.part.status ≡ true → 1 ≤ room
    → but_next (decided ticks limits tick room s) ≡ but_next s → IsIdle (tick + 1) s.part
still_idle ticks limits tick room s well active some same = by (spent_by_decision limits tick room s.part) refl
  where
    after : Part
    after = after_decision limits tick room s.part

    counted : (spent : Spent) → spent_by_decision limits tick room s.part ≡ spent → but_next (record { part = after_decision limits tick room s.part; account = accounted ticks limits tick room (after_decision limits tick room s.part) spent s.account }) ≡ but_next s
    counted spent at =
        subst (λ (x : Spent). but_next (record { part = after_decision limits tick room s.part; account = accounted ticks limits tick room (after_decision limits tick room s.part) x s.account }) ≡ but_next s) at same

    by : (spent : Spent) → spent_by_decision limits tick room s.part ≡ spent → IsIdle (tick + 1) s.part
    by Idle at = still_part limits tick room s.part well active at (ap (λ (x : State). x.part) same)
    by Lost at = let e : s.account.lost + room ≡ s.account.lost = ap (λ (x : State). x.account.lost) (counted Lost at) in absurd (omega (arith, e, some))
    by (Step cost) at = let e : s.account.steps + 1 ≡ s.account.steps = ap (λ (x : State). x.account.steps) (counted (Step cost) at) in absurd (omega (arith, e))
