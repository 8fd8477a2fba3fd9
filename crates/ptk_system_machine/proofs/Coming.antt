-- The turns of a run, and how far each partition has come.
use Rattle.std.proofs.Common.{◌≡◌, ◌≢◌, ℕ, ◌+◌, ◌-◌, ◌<◌, ◌≤◌, Bool, true, false, ◌==◌, List, length, Option, Some, None, ◌⊎◌, inl, inr, refl, sym, ap, subst, ◌∙◌, eqb-true, eq-eqb, arith}
use Rattle.std.specs.Prelude.{IfSome, MatchOption}
use Rattle.std.proofs.lemmas.Bool.{false≢true, cases_lt}
use Rattle.ptk_words.specs.declared.sections.Limits.{Limits}
use Rattle.ptk_words_model.specs.Windows.{WindowPlan, OwnTicks, IsPlan, own_ticks}
use Rattle.ptk_words_model.specs.State.{State}
use Rattle.ptk_words_laws.specs.Quiet.{after_ticks}
use Rattle.ptk_words_model.proofs.OwnLaws.{window_whole}
use Rattle.ptk_words_laws.proofs.TicksInARow.{join, window_own}
use Rattle.ptk_window.specs.declared.near.Turn.{Turn}
use Rattle.ptk_window.specs.Turn.{IsTurn}
use Rattle.ptk_window.specs.Walks.{Way}
use Rattle.ptk_kernel.specs.Kept.{limits_at}
use Rattle.ptk_system_machine.specs.Turns.{IsAt, IsComing, IsInWindow, IsStillUntil, IsUpTo}
use Rattle.ptk_system_machine.specs.Whole.{Whole, IsWhole, state_at, gone_on}
use Rattle.ptk_system_machine.proofs.States.{state_at-put, state_at-other}
use Rattle.ptk_system_machine.proofs.Ticks.{not_due, still_never, still_on}

-- ---- one turn

-- the turn does not begin before what was found
pub begins_from : (low from to : ℕ) (next : Option ℕ) (turn : Turn) → low ≤ from → low ≤ to → IfSome next (λ next. from ≤ next) → (turn.start < to → next ≡ Some turn.start) → low ≤ turn.start
begins_from low from to next turn le last later due = by (cases_lt turn.start to)
  where
    by : (turn.start < to) ⊎ (to ≤ turn.start) → low ≤ turn.start
    by (inl lt) = let at : from ≤ turn.start = subst (λ (o : Option ℕ). IfSome o (λ next. from ≤ next)) (due lt) later in omega arith
    by (inr past) = omega arith

-- a tick that is not the first own one from it on is not own
pub not_own : (plan : WindowPlan) (p tick : ℕ) → IsPlan plan → (own_ticks plan p).next_of tick ≢ Some tick → (own_ticks plan p).end_at tick ≡ None
not_own plan p tick is other = by ((own_ticks plan p).end_at tick) refl
  where
    by : (o : Option ℕ) → (own_ticks plan p).end_at tick ≡ o → (own_ticks plan p).end_at tick ≡ None
    by None e = e
    by (Some end) e = absurd (other ((window_own plan p tick end is e).next tick (omega arith) (window_whole plan p tick end is e).0))

-- a turn that begins in a run begins in a shorter one, or comes at its end
pub coming_before : (ticks : OwnTicks) (to stop : ℕ) (next : Option ℕ) (turn : Turn) → stop ≤ to → turn.start ≤ stop → IsComing ticks to next turn → IsComing ticks stop next turn
coming_before ticks to stop next turn le within coming = record {
  within = within;
  due = λ lt. coming.due (omega (arith, lt, le));
  window = λ lt. coming.window (omega (arith, lt, le));
}

-- ---- the first turns

-- no decision takes place at a tick that is not own
pub never_found : (plan : WindowPlan) (p next k : ℕ) (o : Option Turn) → IsPlan plan → MatchOption o ((own_ticks plan p).next_of next ≡ None) (IsTurn plan p next) → ((turn : Turn) → o ≡ Some turn → turn.start ≢ next) → next ≡ k
    → (own_ticks plan p).end_at k ≡ None
never_found plan p next k None is found other at =
    let none : (own_ticks plan p).next_of k ≡ None = subst (λ (n : ℕ). (own_ticks plan p).next_of n ≡ None) at found in
    not_own plan p k is (λ e. cc (none, e))
never_found plan p next k (Some turn) is found other at =
    not_own plan p k is (λ e.
    let one : Some turn.start ≡ Some k = sym found.0 ∙ (ap (own_ticks plan p).next_of at ∙ e) in
    let start : turn.start ≡ k = cc in
    other turn refl (start ∙ sym at))

-- the first turn begins with the next decision
pub first_due : (ticks : OwnTicks) (limits : Limits) (tick to : ℕ) (turn : Turn) (s : State) → tick ≤ turn.start → turn.start < to → s.account.next ≡ Some turn.start → IsInWindow ticks turn.start turn.end → IsUpTo ticks limits tick to turn s s
first_due ticks limits tick to turn s from before due window = record {
  from = from;
  coming = record { within = omega arith; due = λ lt. due; window = λ lt. window };
  gone = sym (still_on ticks limits tick (turn.start - tick) s
      (λ k le lt. not_due s.account.next tick turn.start k (λ j at later. let same : j ≡ turn.start = cc in omega (arith, same)) le (omega (arith, lt, from))));
}

-- no decision takes place in the run
pub first_none : (ticks : OwnTicks) (limits : Limits) (tick to : ℕ) (turn : Turn) (s : State) → tick ≤ to → turn.start ≡ to
    → ((k : ℕ) → tick ≤ k → k < to → s.account.next ≡ Some k → ticks.end_at k ≡ None) → IsUpTo ticks limits tick to turn s s
first_none ticks limits tick to turn s le last never = record {
  from = omega arith;
  coming = record { within = omega arith; due = λ lt. absurd (omega (arith, lt, last)); window = λ lt. absurd (omega (arith, lt, last)) };
  gone = sym (still_never ticks limits tick (turn.start - tick) s (λ k from below. never k from (omega (arith, below, last))));
}

-- nothing is due before the next decision
pub due_still : (ticks : OwnTicks) (limits : Limits) (tick until : ℕ) (s : State) → s.account.next ≡ Some until → IsStillUntil ticks limits tick until s
due_still ticks limits tick until s due k from le =
    still_on ticks limits tick (k - tick) s
    (λ i after lt. not_due s.account.next tick k i (λ j at later. let same : j ≡ until = cc in omega (arith, same, le)) after (omega (arith, lt, from)))

-- no decision takes place in the run
pub never_still : (ticks : OwnTicks) (limits : Limits) (tick until : ℕ) (s : State) → ((k : ℕ) → tick ≤ k → k < until → s.account.next ≡ Some k → ticks.end_at k ≡ None) → IsStillUntil ticks limits tick until s
never_still ticks limits tick until s never k from le = still_never ticks limits tick (k - tick) s (λ i after lt. never i after (omega (arith, lt, from, le)))

-- ticks from a later one on, where nothing happened before it, are ticks from the first one on
pub gone_late : (ticks : OwnTicks) (limits : Limits) (tick start reached : ℕ) (s : State) → tick ≤ start → start ≤ reached → IsStillUntil ticks limits tick start s
    → after_ticks ticks limits start (reached - start) s ≡ after_ticks ticks limits tick (reached - tick) s
gone_late ticks limits tick start reached s from on still =
    let at : tick + (start - tick) ≡ start = omega (arith, from) in
    let all : start - tick + (reached - start) ≡ reached - tick = omega (arith, from, on) in
    let same : start ≤ start = omega arith in
    ap (after_ticks ticks limits start (reached - start)) (sym (still start from same))
    ∙ (ap (λ (k : ℕ). after_ticks ticks limits k (reached - start) (after_ticks ticks limits tick (start - tick) s)) (sym at)
    ∙ (sym (join ticks limits tick (start - tick) (reached - start) s)
    ∙ ap (λ (n : ℕ). after_ticks ticks limits tick n s) all))

-- a row of one partition up to a tick before which nothing happens to the others is so many ticks of each partition
pub row_each : (plan : WindowPlan) (p tick start reached : ℕ) (old new : Whole) → IsWhole old.kept old.accounts → p < length old.accounts
    → IsStillUntil (own_ticks plan p) (limits_at p old.kept) tick start (state_at p old) → tick ≤ start → start ≤ reached
    → ((q : ℕ) → q < length old.accounts → q ≢ p → IsStillUntil (own_ticks plan q) (limits_at q old.kept) tick reached (state_at q old))
    → new ≡ gone_on (own_ticks plan p) p start (reached - start) old
    → (q : ℕ) → q < length old.accounts → state_at q new ≡ after_ticks (own_ticks plan q) (limits_at q old.kept) tick (reached - tick) (state_at q old)
row_each plan p tick start reached old new is lt still from on others gone q below = by (q == p) refl
  where
    own : state_at p new ≡ after_ticks (own_ticks plan p) (limits_at p old.kept) tick (reached - tick) (state_at p old)
    own =
        ap (state_at p) gone
        ∙ (state_at-put p _ old is lt ∙ gone_late (own_ticks plan p) (limits_at p old.kept) tick start reached (state_at p old) from on still)

    by : (b : Bool) → (q == p) ≡ b → state_at q new ≡ after_ticks (own_ticks plan q) (limits_at q old.kept) tick (reached - tick) (state_at q old)
    by true e =
        let one : q ≡ p = eqb-true q p e in
        subst (λ (r : ℕ). state_at r new ≡ after_ticks (own_ticks plan r) (limits_at r old.kept) tick (reached - tick) (state_at r old)) (sym one) own
    by false e =
        let differ : q ≢ p = λ one. false≢true (sym e ∙ eq-eqb q p one) in
        let after : tick ≤ reached = omega (arith, from, on) in
        ap (state_at q) gone ∙ (state_at-other p q _ old differ ∙ sym (others q below differ reached after (omega arith)))

-- ---- the run

-- one partition more has come to the end
pub one_done : (plan : WindowPlan) (p tick n : ℕ) (old mid new : Whole) → IsWhole mid.kept mid.accounts → p < length mid.accounts → mid.kept.limits ≡ old.kept.limits
    → ((q : ℕ) → q < p → state_at q mid ≡ after_ticks (own_ticks plan q) (limits_at q old.kept) tick n (state_at q old)) → ((q : ℕ) → p ≤ q → state_at q mid ≡ state_at q old)
    → new ≡ gone_on (own_ticks plan p) p tick n mid
    → (q : ℕ) → q < p + 1 → state_at q new ≡ after_ticks (own_ticks plan q) (limits_at q old.kept) tick n (state_at q old)
one_done plan p tick n old mid new is lt same done left gone q below = by (q == p) refl
  where
    limits : limits_at p mid.kept ≡ limits_at p old.kept
    limits = ap (λ (ls : List Limits). limits_at p (record mid.kept { limits = ls })) same

    own : state_at p new ≡ after_ticks (own_ticks plan p) (limits_at p old.kept) tick n (state_at p old)
    own =
        let all : p ≤ p = omega arith in
        ap (state_at p) gone
        ∙ (state_at-put p _ mid is lt
        ∙ (ap (λ (l : Limits). after_ticks (own_ticks plan p) l tick n (state_at p mid)) limits
        ∙ ap (after_ticks (own_ticks plan p) (limits_at p old.kept) tick n) (left p all)))

    by : (b : Bool) → (q == p) ≡ b → state_at q new ≡ after_ticks (own_ticks plan q) (limits_at q old.kept) tick n (state_at q old)
    by true e =
        let one : q ≡ p = eqb-true q p e in
        subst (λ (r : ℕ). state_at r new ≡ after_ticks (own_ticks plan r) (limits_at r old.kept) tick n (state_at r old)) (sym one) own
    by false e =
        let differ : q ≢ p = λ one. false≢true (sym e ∙ eq-eqb q p one) in
        ap (state_at q) gone ∙ (state_at-other p q _ mid differ ∙ done q (omega (arith, below, differ)))

-- the partitions after it stay
pub one_left : (plan : WindowPlan) (p tick n : ℕ) (old mid new : Whole) → ((q : ℕ) → p ≤ q → state_at q mid ≡ state_at q old) → new ≡ gone_on (own_ticks plan p) p tick n mid
    → (q : ℕ) → p + 1 ≤ q → state_at q new ≡ state_at q old
one_left plan p tick n old mid new left gone q above =
    let differ : q ≢ p = λ one. omega (arith, above, one) in
    ap (state_at q) gone ∙ (state_at-other p q _ mid differ ∙ left q (omega (arith, above)))

-- ---- a way through the windows
-- at the window of the turn that comes, where that is in the run
pub at_coming : (plan : WindowPlan) (p to end : ℕ) (next : Option ℕ) (way : Way) (turn : Turn) → IfSome next (λ n. IsAt plan p end way) → (turn.start < to → next ≡ Some turn.start) → (turn.start < to → turn.end ≡ end)
    → turn.start < to → IsAt plan p turn.end way
at_coming plan p to end next way turn at due ends within =
    subst (λ (e : ℕ). IsAt plan p e way) (sym (ends within)) (subst (λ (o : Option ℕ). IfSome o (λ (n : ℕ). IsAt plan p end way)) (due within) at)

-- a way that is known to be at no window
pub at_none : (plan : WindowPlan) (p end : ℕ) (way : Way) → way ≡ record { plan = plan; partition = p; end = None } → IsAt plan p end way
at_none plan p end way is =
    record {
      of_plan = ap (λ (w : Way). w.plan) is;
      of_partition = ap (λ (w : Way). w.partition) is;
      at = subst (λ (o : Option ℕ). IfSome o (λ (known : ℕ). known ≡ end)) (sym (ap (λ (w : Way). w.end) is)) tt;
    }

-- a way of this plan and partition, at this window
pub at_some : (plan : WindowPlan) (p end : ℕ) (old way : Way) → old.plan ≡ plan → old.partition ≡ p → way.plan ≡ old.plan → way.partition ≡ old.partition → IfSome way.end (λ known. known ≡ end) → IsAt plan p end way
at_some plan p end old way plan_is part_is same_plan same_part at = record {
  of_plan = same_plan ∙ plan_is;
  of_partition = same_part ∙ part_is;
  at = at;
}

-- the turn that was found, in the plan and of the partition
pub turn_of : (plan : WindowPlan) (p tick : ℕ) (old : Way) (turn : Turn) → old.plan ≡ plan → old.partition ≡ p → IsTurn old.plan old.partition tick turn → IsTurn plan p tick turn
turn_of plan p tick old turn plan_is part_is is =
    subst (λ (w : WindowPlan). IsTurn w p tick turn) plan_is (subst (λ (q : ℕ). IsTurn old.plan q tick turn) part_is is)
