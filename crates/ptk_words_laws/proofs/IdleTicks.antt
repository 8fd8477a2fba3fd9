-- The decision of an idle partition, and its ticks in a row.
use Rattle.std.proofs.Common.{◌≡◌, ℕ, zero, suc, ◌+◌, ◌-◌, ◌≤◌, ◌<◌, eq-eqb, Bool, true, ◌⊎◌, inl, inr, refl, sym, ap, subst, ◌∙◌, arith}
use Rattle.std.proofs.Math.Nat.{eq-or-lt_of_le}
use Rattle.std.specs.Prelude.{List, [], Option, Some, None, MatchOption, if◌then◌else◌}
use Rattle.std.proofs.lemmas.Option.{MatchOption-at_none}
use Rattle.ptk_words.specs.Pools.{first_of_greatest}
use Rattle.ptk_words.specs.declared.sections.Limits.{Limits}
use Rattle.ptk_words.specs.declared.faults.Status.{Status}
use Rattle.ptk_words_model.specs.Windows.{OwnTicks, WindowPlan, own_ticks, IsOwn, IsFirstOwn, IsOwnUntil, IsPlan}
use Rattle.ptk_words_model.proofs.OwnLaws.{end_of_window}
use Rattle.ptk_words_model.proofs.NextLaws.{next_first, next_one, next_none}
use Rattle.ptk_words_model.specs.declared.Runner.{Runner}
use Rattle.ptk_words_model.specs.declared.Spent.TheVariants.{Idle}
use Rattle.ptk_words_model.specs.State.{Part, State}
use Rattle.ptk_words_model.specs.Priority.{effective_priority}
use Rattle.ptk_words_model.specs.Schedule.{after_choice, after_choice_between}
use Rattle.ptk_words_model.specs.Withdrawal.{after_expiries}
use Rattle.ptk_words_model.specs.Decision.{Decision, decision, runner_in, runner_of, turn, ready_at}
use Rattle.ptk_words_model.specs.Run.{accounted, next_from, is_at, decided, after_tick, after_tick_until}
use Rattle.ptk_words.specs.Faults.{is_active}
use Rattle.ptk_words_laws.specs.Quiet.{after_ticks}
use Rattle.ptk_words_laws.specs.Idle.{IsIdle, waiting_from}
use Rattle.ptk_words_laws.specs.IdleLaws.{IdleIsDecided, IdleIsTicks}
use Rattle.ptk_words_laws.proofs.PlainDecisions.{no_arrivals, no_expiries}
use Rattle.ptk_words_laws.proofs.TicksInARow.{first_by, next_own}

-- ---- the decision

none_chosen : (s : Part) → s.line ≡ [] → after_choice s ≡ s
none_chosen s e = ap (λ (line : List ℕ). after_choice_between s.running (first_of_greatest (effective_priority s.locks) line) s) e

idle_ready : (limits : Limits) (tick stop : ℕ) (s : Part) → IsIdle stop s → tick < stop → ready_at limits tick s ≡ s
idle_ready limits tick stop s idle lt =
    ap (λ (u : Part). after_choice (after_expiries tick u)) (no_arrivals limits tick s (idle.none_comes tick lt))
    ∙ (ap after_choice (no_expiries tick s (idle.none_expires tick lt)) ∙ none_chosen s idle.line)

idle_runner : (s : Part) → s.running ≡ None → runner_of s ≡ None
idle_runner s e = ap (λ (o : Option ℕ). runner_in o s) e

idle_decision : (limits : Limits) (tick stop room : ℕ) (s : Part) → IsIdle stop s → tick < stop → decision limits tick room s ≡ record { spent = Idle; part = s }
idle_decision limits tick stop room s idle lt =
    ap (λ (u : Part). turn limits tick room (runner_of u) u) (idle_ready limits tick stop s idle lt)
    ∙ ap (λ (o : Option Runner). turn limits tick room o s) (idle_runner s idle.running)

-- the decision is idle
pub idle_decided : (limits : Limits) (tick stop room : ℕ) (s : Part) → IdleIsDecided limits tick stop room s
idle_decided limits tick stop room s idle lt le = idle_decision limits tick stop room s idle lt

-- ---- a tick that is not the partition's

later_first : (plan : WindowPlan) (p tick n : ℕ) → ¬ IsOwn plan p tick → IsFirstOwn plan p tick n → IsFirstOwn plan p (tick + 1) n
later_first plan p tick n other first = record {
  own = first.own;
  not_before = by (eq-or-lt_of_le first.not_before);
  least = λ k le lt. first.least k (omega (arith, le)) lt;
}
  where
    by : (tick ≡ n) ⊎ (tick < n) → tick + 1 ≤ n
    by (inl same) = absurd (other (subst (IsOwn plan p) (sym same) first.own))
    by (inr less) = omega (arith, less)

next_later_by : (plan : WindowPlan) (p tick : ℕ) (o : Option ℕ) → IsPlan plan → ¬ IsOwn plan p tick → MatchOption o ((n : ℕ) → tick ≤ n → ¬ IsOwn plan p n) (IsFirstOwn plan p tick) → o ≡ (own_ticks plan p).next_of (tick + 1)
next_later_by plan p tick None is other none = sym (next_none plan p (tick + 1) is (λ n le. none n (omega (arith, le))))
next_later_by plan p tick (Some n) is other first = sym (next_one plan p (tick + 1) n is (later_first plan p tick n other first))

-- the first own tick from one that is not own is that from the tick after it
next_later : (plan : WindowPlan) (p tick : ℕ) (status : Status) → IsPlan plan → (own_ticks plan p).end_at tick ≡ None → next_from (own_ticks plan p) status tick ≡ next_from (own_ticks plan p) status (tick + 1)
next_later plan p tick status is none =
    let other : ¬ IsOwn plan p tick = MatchOption-at_none (¬ IsOwn plan p tick) (IsOwnUntil plan p tick) none (end_of_window plan p tick) in
    ap (λ (o : Option ℕ). if is_active status then o else None) (next_later_by plan p tick ((own_ticks plan p).next_of tick) is other (next_first plan p tick is))

-- ---- ticks

idle_at : (ticks : OwnTicks) (limits : Limits) (tick stop room : ℕ) (s : State) → IsIdle stop s.part → tick < stop → decided ticks limits tick room s ≡ waiting_from ticks (tick + 1) s
idle_at ticks limits tick stop room s idle lt =
    let state : Decision → State = λ d. record { part = d.part; account = accounted ticks limits tick room d.part d.spent s.account } in
    ap state (idle_decision limits tick stop room s.part idle lt)

idle_tick : (plan : WindowPlan) (p : ℕ) (limits : Limits) (tick stop : ℕ) (s : State) → IsPlan plan → IsIdle stop s.part → tick < stop
    → after_tick (own_ticks plan p) limits tick (waiting_from (own_ticks plan p) tick s) ≡ waiting_from (own_ticks plan p) (tick + 1) s
idle_tick plan p limits tick stop s is idle lt = by ((own_ticks plan p).end_at tick) refl
  where
    ticks : OwnTicks
    ticks = own_ticks plan p

    by : (o : Option ℕ) → ticks.end_at tick ≡ o → after_tick_until o ticks limits tick (waiting_from ticks tick s) ≡ waiting_from ticks (tick + 1) s
    by None other = ap (λ (next : Option ℕ). record s { account = record (s.account) { next = next } }) (next_later plan p tick s.part.status is other)
    by (Some end) own =
        let next : next_from ticks s.part.status tick ≡ Some tick = next_own ticks s.part.status tick idle.active (next_one plan p tick tick is (first_by plan p tick end own)) in
        let at : is_at tick (next_from ticks s.part.status tick) ≡ true = ap (is_at tick) next ∙ eq-eqb tick tick refl in
        ap (λ (b : Bool). if b then decided ticks limits tick (end - tick) (waiting_from ticks tick s) else waiting_from ticks tick s) at
        ∙ idle_at ticks limits tick stop (end - tick) (waiting_from ticks tick s) idle lt

ticks_by : (plan : WindowPlan) (p : ℕ) (limits : Limits) (tick stop n : ℕ) (s : State) → IsPlan plan → IsIdle stop s.part → s.account.next ≡ next_from (own_ticks plan p) s.part.status tick → tick + n ≤ stop
    → after_ticks (own_ticks plan p) limits tick n s ≡ waiting_from (own_ticks plan p) (tick + n) s
unfolding after_ticks
ticks_by plan p limits tick stop zero s is idle next le =
    let none : tick ≡ tick + 0 = omega arith in
    ap (λ (o : Option ℕ). record s { account = record (s.account) { next = o } }) next
    ∙ ap (λ (k : ℕ). waiting_from (own_ticks plan p) k s) none
ticks_by plan p limits tick stop (suc n) s is idle next le =
    let one : tick + n + 1 ≡ tick + suc n = omega arith in
    ap (after_tick (own_ticks plan p) limits (tick + n)) (ticks_by plan p limits tick stop n s is idle next (omega (arith, le)))
    ∙ (idle_tick plan p limits (tick + n) stop s is idle (omega (arith, le))
    ∙ ap (λ (k : ℕ). waiting_from (own_ticks plan p) k s) one)

pub idle_ticks : (plan : WindowPlan) (p : ℕ) (limits : Limits) (tick stop n : ℕ) (s : State) → IdleIsTicks plan p limits tick stop n s
idle_ticks plan p limits tick stop n s is idle next le = ticks_by plan p limits tick stop n s is idle next le
