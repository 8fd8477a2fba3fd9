-- A state that is prepared for its decision: its status, and ticks from it.
use Rattle.std.proofs.Common.{◌≡◌, ℕ, zero, suc, ◌+◌, ◌-◌, eq-eqb, Bool, true, false, refl, sym, ap, ◌∙◌, arith}
use Rattle.std.specs.Prelude.{Option, Some, None, nat_lt, if◌then◌else◌}
use Rattle.ptk_words.specs.declared.sections.Limits.{Limits}
use Rattle.ptk_words_model.specs.Windows.{OwnTicks}
use Rattle.ptk_words_model.specs.State.{Part, State, with_locks}
use Rattle.ptk_words_model.specs.Priority.{effective_priority}
use Rattle.ptk_words_model.specs.Schedule.{at_head, first_ready, after_choice_between, after_dispatch}
use Rattle.ptk_words_model.specs.Withdrawal.{after_expiries}
use Rattle.ptk_words_model.specs.Decision.{Decision, after_arrivals, ready_at, runner_of, turn}
use Rattle.ptk_words_model.specs.Run.{accounted, is_at, decided, after_tick, after_tick_until}
use Rattle.ptk_words_invariant.proofs.Decisions.{arrivals_status}
use Rattle.ptk_words_invariant.proofs.Timeouts.{expiries_status}
use Rattle.ptk_words_laws.specs.Quiet.{after_ticks}
use Rattle.ptk_words_laws.specs.Prepared.{prepared, PreparedGoesOn}

-- ---- the status

choice_status : (r t : Option ℕ) (s : Part) → (after_choice_between r t s).status ≡ s.status
choice_status r None s = refl
choice_status None (Some t) s = refl
choice_status (Some r) (Some t) s = by (nat_lt (effective_priority s.locks r) (effective_priority s.locks t))
  where
    by : (b : Bool) → (if b then after_dispatch t (with_locks (at_head r) s) else s).status ≡ s.status
    by true = refl
    by false = refl

-- arrivals, expiries and the choice halt no partition
pub ready_status : (limits : Limits) (tick : ℕ) (s : Part) → (ready_at limits tick s).status ≡ s.status
ready_status limits tick s =
    let come : Part = after_expiries tick (after_arrivals limits tick s) in
    choice_status come.running (first_ready come.locks) come ∙ (expiries_status tick (after_arrivals limits tick s) ∙ arrivals_status limits tick s)

-- ---- ticks

-- the state after the turn of this prepared part
abbrev turned : OwnTicks → Limits → ℕ → ℕ → State → Part → State
turned ticks limits tick room s ready =
    let d : Decision = turn limits tick room (runner_of ready) ready in
    record { part = d.part; account = accounted ticks limits tick room d.part d.spent s.account }

-- the decision at the tick is that of the state before
prepared_decided : (ticks : OwnTicks) (limits : Limits) (tick room : ℕ) (s : State) → ready_at limits tick (ready_at limits tick s.part) ≡ ready_at limits tick s.part
    → decided ticks limits tick room (prepared limits tick s) ≡ decided ticks limits tick room s
prepared_decided ticks limits tick room s same = ap (turned ticks limits tick room s) same

prepared_first : (ticks : OwnTicks) (limits : Limits) (tick end : ℕ) (s : State) → ready_at limits tick (ready_at limits tick s.part) ≡ ready_at limits tick s.part → s.account.next ≡ Some tick → ticks.end_at tick ≡ Some end
    → after_tick ticks limits tick (prepared limits tick s) ≡ after_tick ticks limits tick s
prepared_first ticks limits tick end s same due own =
    let at : is_at tick s.account.next ≡ true = ap (is_at tick) due ∙ eq-eqb tick tick refl in
    let by : (u : State) → is_at tick u.account.next ≡ true → after_tick ticks limits tick u ≡ decided ticks limits tick (end - tick) u
    = λ u is. ap (λ (o : Option ℕ). after_tick_until o ticks limits tick u) own ∙ ap (λ (b : Bool). if b then decided ticks limits tick (end - tick) u else u) is in
    by (prepared limits tick s) at ∙ (prepared_decided ticks limits tick (end - tick) s same ∙ sym (by s at))

pub prepared_on : (ticks : OwnTicks) (limits : Limits) (tick end n : ℕ) (s : State) → PreparedGoesOn ticks limits tick end n s
unfolding after_ticks
prepared_on ticks limits tick end zero s same due own le = absurd (omega (arith, le))
prepared_on ticks limits tick end (suc zero) s same due own le =
    let none : tick + 0 ≡ tick = omega arith in
    ap (λ (k : ℕ). after_tick ticks limits k (prepared limits tick s)) none
    ∙ (prepared_first ticks limits tick end s same due own ∙ sym (ap (λ (k : ℕ). after_tick ticks limits k s) none))
prepared_on ticks limits tick end (suc (suc n)) s same due own le =
    ap (after_tick ticks limits (tick + suc n)) (prepared_on ticks limits tick end (suc n) s same due own (omega arith))
