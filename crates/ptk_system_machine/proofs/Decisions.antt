-- Decisions one after the other, each a step, are the ticks that they take, and leave the threads as they are and wait.
use Rattle.std.proofs.Common.{◌≡◌, ℕ, zero, suc, ◌+◌, ◌-◌, ◌<◌, ◌≤◌, Bool, true, false, List, ◌++◌, append_assoc, Some, None, refl, sym, ap, subst, ◌∙◌, arith}
use Rattle.std.specs.Prelude.{option_to_list, if◌then◌else◌}
use Rattle.std.proofs.lemmas.Option.{MatchOption-at_some}
use Rattle.ptk_words.specs.declared.faults.Status.{Status}
use Rattle.ptk_words.specs.declared.sections.Entry.{Entry}
use Rattle.ptk_words.specs.declared.sections.Limits.{Limits}
use Rattle.ptk_words_model.specs.Windows.{OwnTicks, WindowPlan, IsFirstOwn, IsOwn, IsPlan, own_ticks}
use Rattle.ptk_words_model.proofs.NextLaws.{next_first}
use Rattle.ptk_words_model.specs.State.{Part, State}
use Rattle.ptk_words_model.specs.Decision.{Decision, after_decision}
use Rattle.ptk_words_model.specs.Run.{accounted, decided, last_of, next_from}
use Rattle.ptk_words.specs.Faults.{is_active}
use Rattle.ptk_words_model.proofs.Last.{last_more}
use Rattle.ptk_words_laws.specs.Quiet.{after_ticks}
use Rattle.ptk_words_laws.proofs.TicksInARow.{join, next_own}
use Rattle.ptk_kernel.specs.Decisions.{AreQuietSteps, IsQuietStep, Progress, begun, decided_on, decisions, entries_of}
use Rattle.ptk_kernel.proofs.Decisions.{step_ticks, steps_later}
use Rattle.ptk_system_machine.specs.Steady.{AreSteady, states_from}
use Rattle.ptk_system_machine.proofs.Steady.{states_first, states_later, steady_call, steady_further}
use Rattle.ptk_system_machine.proofs.Ticks.{decided_tick, is_due, not_due, still_on}

-- the next own tick from one on is not before it
abbrev pub IsLater : OwnTicks → Type 0
IsLater ticks = (k j : ℕ) → ticks.next_of k ≡ Some j → k ≤ j

-- of a plan's windows it is
pub own_later : (plan : WindowPlan) (p : ℕ) → IsPlan plan → IsLater (own_ticks plan p)
own_later plan p is = λ k j e.
    (MatchOption-at_some ((n : ℕ) → k ≤ n → ¬ IsOwn plan p n) (IsFirstOwn plan p k) j e (next_first plan p k is)).not_before

-- the next own tick of a partition that is not halted
pub next_active : (ticks : OwnTicks) (status : Status) (k j : ℕ) → next_from ticks status k ≡ Some j → ticks.next_of k ≡ Some j
next_active ticks status k j e = by (is_active status) e
  where
    by : (b : Bool) → (if b then ticks.next_of k else None) ≡ Some j → ticks.next_of k ≡ Some j
    by true at = at
    by false at = absurd (let no : ⊥ = cc in no)

next_later : (ticks : OwnTicks) (status : Status) (k j : ℕ) → IsLater ticks → next_from ticks status k ≡ Some j → k ≤ j
next_later ticks status k j later e = later k j (next_active ticks status k j e)

-- ---- one decision

-- the state after a decision of this number of ticks that is a step
abbrev pub stepped_on : OwnTicks → Limits → ℕ → ℕ → State → State
stepped_on ticks limits tick cost s =
    let after : Part = after_decision limits tick 16 s.part in
    record {
      part = after;
      account = record s.account {
        next = next_from ticks after.status (tick + cost);
        steps = s.account.steps + 1;
        trace = last_of limits.trace (s.account.trace ++ option_to_list after.last);
      };
    }

decided_step : (ticks : OwnTicks) (limits : Limits) (t tick cost room : ℕ) (s : State) → IsQuietStep limits t cost tick s.part → cost ≤ room → decided ticks limits tick room s ≡ stepped_on ticks limits tick cost s
decided_step ticks limits t tick cost room s is fits =
    ap (λ (d : Decision). record { part = d.part; account = accounted ticks limits tick room d.part d.spent s.account }) (is.made room fits)

-- from its tick on and up to the next one's
pub step_gone : (ticks : OwnTicks) (limits : Limits) (t tick cost end m : ℕ) (s : State) → IsLater ticks → ticks.end_at tick ≡ Some end → tick + cost ≤ end → s.account.next ≡ Some tick → IsQuietStep limits t cost tick s.part → 1 ≤ m → m ≤ cost
    → after_ticks ticks limits tick m s ≡ stepped_on ticks limits tick cost s
step_gone ticks limits t tick cost end m s later ends within due is some few =
    let all : m ≡ 1 + (m - 1) = omega (arith, some) in
    let u : State = stepped_on ticks limits tick cost s in
    ap (λ (k : ℕ). after_ticks ticks limits tick k s) all
    ∙ (join ticks limits tick 1 (m - 1) s
    ∙ (ap (after_ticks ticks limits (tick + 1) (m - 1)) (decided_tick ticks limits tick end s ends (is_due tick s.account.next due) ∙ decided_step ticks limits t tick cost (end - tick) s is (omega (arith, within)))
    ∙ still_on ticks limits (tick + 1) (m - 1) (stepped_on ticks limits tick cost s)
    (λ k le lt. not_due (stepped_on ticks limits tick cost s).account.next (tick + 1) (tick + cost) k (λ j at from. next_later ticks (stepped_on ticks limits tick cost s).part.status (tick + cost) j later at) le (omega (arith, lt, few, some)))))

-- ---- decisions one after the other

-- the state after so many of them
abbrev pub gone_state : OwnTicks → Limits → ℕ → ℕ → State → State
gone_state ticks limits tick n s =
    let after : Progress = decisions limits n (begun tick s.part) in
    record {
      part = after.part;
      account = record s.account {
        next = next_from ticks after.part.status after.tick;
        steps = s.account.steps + n;
        trace = last_of limits.trace (s.account.trace ++ entries_of limits n (begun tick s.part));
      };
    }

pub one_more : (ticks : OwnTicks) (limits : Limits) (t tick n cost : ℕ) (s : State) → IsQuietStep limits t cost (decisions limits n (begun tick s.part)).tick (decisions limits n (begun tick s.part)).part
    → stepped_on ticks limits (decisions limits n (begun tick s.part)).tick cost (gone_state ticks limits tick n s) ≡ gone_state ticks limits tick (suc n) s
unfolding decisions entries_of
one_more ticks limits t tick n cost s is =
    let x : Progress = begun tick s.part in
    let y : Progress = decided_on limits (decisions limits n (begun tick s.part)) in
    let at : (decisions limits n (begun tick s.part)).tick + cost ≡ (decided_on limits (decisions limits n (begun tick s.part))).tick = sym (step_ticks limits t cost (decisions limits n (begun tick s.part)) is) in
    let steps : s.account.steps + n + 1 ≡ s.account.steps + suc n = omega arith in
    let l : List Entry = option_to_list (decided_on limits (decisions limits n (begun tick s.part))).part.last in
    let trace : last_of limits.trace (last_of limits.trace (s.account.trace ++ entries_of limits n (begun tick s.part)) ++ option_to_list (decided_on limits (decisions limits n (begun tick s.part))).part.last)
    ≡ last_of limits.trace (s.account.trace ++ (entries_of limits n (begun tick s.part) ++ option_to_list (decided_on limits (decisions limits n (begun tick s.part))).part.last))
    = last_more limits.trace (s.account.trace ++ entries_of limits n (begun tick s.part)) (option_to_list (decided_on limits (decisions limits n (begun tick s.part))).part.last)
    ∙ ap (last_of limits.trace) (append_assoc s.account.trace (entries_of limits n (begun tick s.part)) (option_to_list (decided_on limits (decisions limits n (begun tick s.part))).part.last)) in
    let made : ℕ → ℕ → List Entry → State = λ k count es. record {
      part = (decided_on limits (decisions limits n (begun tick s.part))).part;
      account = record s.account { next = next_from ticks (decided_on limits (decisions limits n (begun tick s.part))).part.status k; steps = count; trace = es };
    } in
    let path : ◌≡◌ {A = State} (stepped_on ticks limits (decisions limits n (begun tick s.part)).tick cost (gone_state ticks limits tick n s)) (gone_state ticks limits tick (suc n) s) = λ i. made (at i) (steps i) (trace i) in
    path

pub first_one : (ticks : OwnTicks) (limits : Limits) (t tick cost : ℕ) (s : State) → IsQuietStep limits t cost tick s.part → stepped_on ticks limits tick cost s ≡ gone_state ticks limits tick 1 s
unfolding decisions entries_of
first_one ticks limits t tick cost s is =
    ap (λ (k : ℕ). record (stepped_on ticks limits tick cost s) { account = record (stepped_on ticks limits tick cost s).account { next = next_from ticks (after_decision limits tick 16 s.part).status k } })
    (sym (step_ticks limits t cost (begun tick s.part) is))

-- from its tick on and up to the next one's each decision leaves the threads
step_steady : (ticks : OwnTicks) (limits : Limits) (t tick cost end : ℕ) (s : State) → IsLater ticks → ticks.end_at tick ≡ Some end → tick + cost ≤ end → s.account.next ≡ Some tick → IsQuietStep limits t cost tick s.part
    → AreSteady s.part (states_from ticks limits tick s) tick (tick + cost)
step_steady ticks limits t tick cost end s later ends within due is =
    steady_call s (stepped_on ticks limits tick cost s) (states_from ticks limits tick s) tick (tick + cost) (states_first ticks limits tick s)
    (λ k after le. step_gone ticks limits t tick cost end (k - tick) s later ends within due is (omega (arith, after)) (omega (arith, le)))
    is.steady refl is.last

-- what so many decisions are
abbrev pub HaveGone : OwnTicks → Limits → ℕ → ℕ → State → Type 0
HaveGone ticks limits tick n s =
    (after_ticks ticks limits tick ((decisions limits n (begun tick s.part)).tick - tick) s ≡ gone_state ticks limits tick n s) × AreSteady s.part (states_from ticks limits tick s) tick (decisions limits n (begun tick s.part)).tick

-- in one window they are the ticks that they take
pub decisions_gone : (ticks : OwnTicks) (limits : Limits) (t tick end n : ℕ) (s : State) → IsLater ticks → ((k : ℕ) → tick ≤ k → k < end → ticks.end_at k ≡ Some end) → ((k : ℕ) → tick ≤ k → k < end → ticks.next_of k ≡ Some k)
    → s.account.next ≡ Some tick → AreQuietSteps limits t n (begun tick s.part) → (decisions limits n (begun tick s.part)).tick ≤ end → 1 ≤ n → HaveGone ticks limits tick n s
unfolding decisions
decisions_gone ticks limits t tick end zero s later ends own due are le some = absurd (omega (arith, some))
decisions_gone ticks limits t tick end (suc zero) s later ends own due are le some =
    let is = are 0 (omega arith) in
    let at : (decided_on limits (begun tick s.part)).tick ≡ tick + is.0 = step_ticks limits t is.0 (begun tick s.part) is.1 in
    let one : 1 ≤ is.0 = is.1.some in
    let within : tick + is.0 ≤ end = omega (arith, at, le) in
    let spent : (decided_on limits (begun tick s.part)).tick - tick ≡ is.0 = omega (arith, at) in
    let ends_at : ticks.end_at tick ≡ Some end = ends tick (omega arith) (omega (arith, within, one)) in (
      ap (λ (m : ℕ). after_ticks ticks limits tick m s) spent ∙ (step_gone ticks limits t tick is.0 end is.0 s later ends_at within due is.1 one (omega arith) ∙ first_one ticks limits t tick is.0 s is.1),
      subst (AreSteady s.part (states_from ticks limits tick s) tick) (sym at) (step_steady ticks limits t tick is.0 end s later ends_at within due is.1),
    )
decisions_gone ticks limits t tick end (suc (suc n)) s later ends own due are le some =
    let is = are (suc n) (omega arith) in
    let fewer : AreQuietSteps limits t (suc n) (begun tick s.part) = λ k lt. are k (omega (arith, lt)) in
    let at : (decided_on limits (decisions limits (suc n) (begun tick s.part))).tick ≡ (decisions limits (suc n) (begun tick s.part)).tick + is.0 = step_ticks limits t is.0 (decisions limits (suc n) (begun tick s.part)) is.1 in
    let one : 1 ≤ is.0 = is.1.some in
    let within : (decisions limits (suc n) (begun tick s.part)).tick + is.0 ≤ end = omega (arith, at, le) in
    let from : tick + suc n ≤ (decisions limits (suc n) (begun tick s.part)).tick = steps_later limits t (suc n) (begun tick s.part) fewer in
    let before : HaveGone ticks limits tick (suc n) s = decisions_gone ticks limits t tick end (suc n) s later ends own due fewer (omega (arith, within)) (omega arith) in
    let mid : ℕ = (decisions limits (suc n) (begun tick s.part)).tick in
    let ends_at : ticks.end_at (decisions limits (suc n) (begun tick s.part)).tick ≡ Some end = ends (decisions limits (suc n) (begun tick s.part)).tick (omega (arith, from)) (omega (arith, within, one)) in
    let next : (gone_state ticks limits tick (suc n) s).account.next ≡ Some (decisions limits (suc n) (begun tick s.part)).tick
    = next_own ticks (decisions limits (suc n) (begun tick s.part)).part.status (decisions limits (suc n) (begun tick s.part)).tick is.1.active (own (decisions limits (suc n) (begun tick s.part)).tick (omega (arith, from)) (omega (arith, within, one))) in
    let spent : (decided_on limits (decisions limits (suc n) (begun tick s.part))).tick - tick ≡ (decisions limits (suc n) (begun tick s.part)).tick - tick + is.0 = omega (arith, at, from) in
    let here : tick + ((decisions limits (suc n) (begun tick s.part)).tick - tick) ≡ (decisions limits (suc n) (begun tick s.part)).tick = omega (arith, from) in
    let upto : AreSteady (states_from ticks limits tick s (decisions limits (suc n) (begun tick s.part)).tick).part (states_from ticks limits (decisions limits (suc n) (begun tick s.part)).tick (states_from ticks limits tick s (decisions limits (suc n) (begun tick s.part)).tick)) (decisions limits (suc n) (begun tick s.part)).tick ((decisions limits (suc n) (begun tick s.part)).tick + is.0)
    = subst (λ (u : State). AreSteady u.part (states_from ticks limits (decisions limits (suc n) (begun tick s.part)).tick u) (decisions limits (suc n) (begun tick s.part)).tick ((decisions limits (suc n) (begun tick s.part)).tick + is.0)) (sym before.0)
    (step_steady ticks limits t (decisions limits (suc n) (begun tick s.part)).tick is.0 end (gone_state ticks limits tick (suc n) s) later ends_at within next is.1) in (
      ap (λ (m : ℕ). after_ticks ticks limits tick m s) spent
          ∙ (join ticks limits tick ((decisions limits (suc n) (begun tick s.part)).tick - tick) is.0 s
          ∙ (ap (after_ticks ticks limits (tick + ((decisions limits (suc n) (begun tick s.part)).tick - tick)) is.0) before.0
          ∙ (ap (λ (k : ℕ). after_ticks ticks limits k is.0 (gone_state ticks limits tick (suc n) s)) here
          ∙ (step_gone ticks limits t (decisions limits (suc n) (begun tick s.part)).tick is.0 end is.0 (gone_state ticks limits tick (suc n) s) later ends_at within next is.1 one (omega arith)
          ∙ one_more ticks limits t tick (suc n) is.0 s is.1)))),
      subst (AreSteady s.part (states_from ticks limits tick s) tick) (sym at)
          (steady_further s.part (states_from ticks limits tick s) (states_from ticks limits (decisions limits (suc n) (begun tick s.part)).tick (states_from ticks limits tick s (decisions limits (suc n) (begun tick s.part)).tick)) tick (decisions limits (suc n) (begun tick s.part)).tick ((decisions limits (suc n) (begun tick s.part)).tick + is.0)
          (omega (arith, from)) (omega arith) before.1 upto
          (λ k on within_k. sym (states_later ticks limits tick (decisions limits (suc n) (begun tick s.part)).tick k s (omega (arith, from)) on))),
    )

-- where they lead to this part and this tick
pub led_gone : (ticks : OwnTicks) (limits : Limits) (tick n reached : ℕ) (s : State) (new : Part) → decisions limits n (begun tick s.part) ≡ begun reached new → HaveGone ticks limits tick n s
    → (after_ticks ticks limits tick (reached - tick) s
    ≡ record { part = new; account = record s.account { next = next_from ticks new.status reached; steps = s.account.steps + n; trace = last_of limits.trace (s.account.trace ++ entries_of limits n (begun tick s.part)) } })
    × AreSteady s.part (states_from ticks limits tick s) tick reached
led_gone ticks limits tick n reached s new led gone =
    subst (λ (y : Progress). (after_ticks ticks limits tick (y.tick - tick) s
    ≡ record { part = y.part; account = record s.account { next = next_from ticks y.part.status y.tick; steps = s.account.steps + n; trace = last_of limits.trace (s.account.trace ++ entries_of limits n (begun tick s.part)) } })
    × AreSteady s.part (states_from ticks limits tick s) tick y.tick) led gone
