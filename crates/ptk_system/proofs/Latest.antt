-- When a partition's state changes next: with a decision at its next own tick, unless it has nothing to do.
use Rattle.std.proofs.Common.{◌≡◌, ◌≢◌, ℕ, zero, suc, ◌+◌, ◌-◌, ◌<◌, ◌≤◌, Bool, true, false, List, Option, Some, None, if◌then◌else◌, refl, sym, ap, subst, ◌∙◌, eq-eqb, arith}
use Rattle.std.specs.Prelude.{MatchOption}
use Rattle.std.proofs.lemmas.Bool.{false≢true}
use Rattle.std.proofs.lemmas.Option.{MatchOption-at_some}
use Rattle.ptk_words.specs.declared.faults.Status.{Status}
use Rattle.ptk_words.specs.declared.sections.Arrival.{Arrival}
use Rattle.ptk_words.specs.declared.sections.Limits.{Limits}
use Rattle.ptk_words_model.specs.Windows.{OwnTicks, WindowPlan, IsFirstOwn, IsOwn, IsOwnUntil, IsPlan, own_ticks}
use Rattle.ptk_words_model.proofs.NextLaws.{next_first, next_one}
use Rattle.ptk_words_model.proofs.OwnLaws.{end_of_window, window_whole, end_none}
use Rattle.ptk_words_model.specs.State.{State}
use Rattle.ptk_words_model.specs.Decision.{after_decision, spent_by_decision}
use Rattle.ptk_words_model.specs.Run.{after_tick_until, alone, decided, is_at, next_from, start}
use Rattle.ptk_words.specs.Faults.{is_active}
use Rattle.ptk_words_invariant.specs.Well.{IsWell}
use Rattle.ptk_words_laws.specs.Quiet.{after_ticks}
use Rattle.ptk_words_laws.specs.Idle.{IsIdle, waiting_from}
use Rattle.ptk_words_laws.proofs.IdleTicks.{idle_ticks}
use Rattle.ptk_words_laws.proofs.TicksInARow.{first_by, join, next_own}
use Rattle.ptk_system_machine.specs.Accounts.{duration_of}
use Rattle.ptk_system_machine.proofs.States.{accounted_next}
use Rattle.ptk_system_machine.proofs.Costs.{decision_costs}
use Rattle.ptk_system_machine.proofs.Ticks.{not_due, still_never, still_on}
use Rattle.ptk_system.specs.World.{but_next}
use Rattle.ptk_system.proofs.Changes.{still_idle}

-- ---- own ticks

-- a tick is own where it has an end
end_some : (plan : WindowPlan) (p tick : ℕ) → IsOwn plan p tick → (end : ℕ) × ((own_ticks plan p).end_at tick ≡ Some end)
end_some plan p tick own = by ((own_ticks plan p).end_at tick) refl (end_of_window plan p tick)
  where
    by : (o : Option ℕ) → (own_ticks plan p).end_at tick ≡ o → MatchOption o (¬ IsOwn plan p tick) (IsOwnUntil plan p tick) → (end : ℕ) × ((own_ticks plan p).end_at tick ≡ Some end)
    by None e other = absurd (other own)
    by (Some end) e until = (end, e)

-- no tick before the first own one is own
pub none_sooner : (plan : WindowPlan) (p tick own k : ℕ) → IsFirstOwn plan p tick own → tick ≤ k → k < own → (own_ticks plan p).end_at k ≡ None
none_sooner plan p tick own k first from below = end_none plan p k (first.least k from below)

-- a tick that is own and not before another
pub record IsOwnFrom (plan : WindowPlan) (p tick k : ℕ) : Type 0 where
  pub from : tick ≤ k
  pub own : IsOwn plan p k

pub first_own : (plan : WindowPlan) (p tick k : ℕ) (status : Status) → IsPlan plan → next_from (own_ticks plan p) status tick ≡ Some k → IsOwnFrom plan p tick k
first_own plan p tick k status is e = by (is_active status) e
  where
    by : (b : Bool) → (if b then (own_ticks plan p).next_of tick else None) ≡ Some k → IsOwnFrom plan p tick k
    by false none = absurd cc
    by true next =
        let first : IsFirstOwn plan p tick k = MatchOption-at_some ((n : ℕ) → tick ≤ n → ¬ IsOwn plan p n) (IsFirstOwn plan p tick) k next (next_first plan p tick is) in
        record { from = first.not_before; own = first.own }

-- ---- the next decision is at a tick of the partition's own, which is not before

own_before : (plan : WindowPlan) (p tick k : ℕ) → IsOwnFrom plan p tick k → tick ≢ k → IsOwnFrom plan p (suc tick) k
own_before plan p tick k at other = record { from = omega (arith, at.from, other); own = at.own }

next_more : (plan : WindowPlan) (p : ℕ) (limits : Limits) (n : ℕ) (s : State) → IsPlan plan → ((k : ℕ) → s.account.next ≡ Some k → IsOwnFrom plan p n k)
    → (o : Option ℕ) → (own_ticks plan p).end_at n ≡ o → (k : ℕ) → (after_tick_until o (own_ticks plan p) limits n s).account.next ≡ Some k → IsOwnFrom plan p (suc n) k
next_more plan p limits n s is before None none k at =
    own_before plan p n k (before k at) (λ same.
    let here = end_some plan p n (subst (IsOwn plan p) (sym same) (before k at).own) in
    absurd (let e : None ≡ Some here.0 = sym none ∙ here.1 in cc))
next_more plan p limits n s is before (Some end) own k at = by (is_at n s.account.next) refl at
  where
    by : (b : Bool) → is_at n s.account.next ≡ b → (if b then decided (own_ticks plan p) limits n (end - n) s else s).account.next ≡ Some k → IsOwnFrom plan p (suc n) k
    by true due next =
        let some : 1 ≤ end - n = omega (arith, (window_whole plan p n end is own).0) in
        let cost : 1 ≤ duration_of (end - n) (spent_by_decision limits n (end - n) s.part) = decision_costs limits n (end - n) s.part (spent_by_decision limits n (end - n) s.part) some refl in
        let later : IsOwnFrom plan p (n + duration_of (end - n) (spent_by_decision limits n (end - n) s.part)) k =
        first_own plan p (n + duration_of (end - n) (spent_by_decision limits n (end - n) s.part)) k (after_decision limits n (end - n) s.part).status is
        (sym (accounted_next (own_ticks plan p) limits n (end - n) (after_decision limits n (end - n) s.part) (spent_by_decision limits n (end - n) s.part) s.account) ∙ next) in
        record { from = omega (arith, later.from, cost); own = later.own }
    by false due next =
        own_before plan p n k (before k next) (λ same.
        let now : is_at n (Some k) ≡ true = eq-eqb k n (sym same) in
        absurd (false≢true (sym due ∙ (ap (is_at n) next ∙ now))))

-- a partition's next decision
pub next_is_own : (plan : WindowPlan) (p : ℕ) (limits : Limits) (image : Option (List ℕ)) (input : List Arrival) (n k : ℕ) → IsPlan plan → (alone (own_ticks plan p) limits image input n).account.next ≡ Some k → IsOwnFrom plan p n k
next_is_own plan p limits image input zero k is at = first_own plan p 0 k (start (own_ticks plan p) limits image input).part.status is at
next_is_own plan p limits image input (suc n) k is at =
    next_more plan p limits n (alone (own_ticks plan p) limits image input n) is (λ j before. next_is_own plan p limits image input n j is before) ((own_ticks plan p).end_at n) refl k at

-- ---- what changes with a decision

-- where nothing is seen of the decision at a tick, the partition has nothing to do up to the next one
pub unseen_idle : (plan : WindowPlan) (p : ℕ) (limits : Limits) (n : ℕ) (s : State) → IsPlan plan → IsWell limits s.part → is_active s.part.status ≡ true → s.account.next ≡ Some n → IsOwn plan p n
    → but_next (after_tick_until ((own_ticks plan p).end_at n) (own_ticks plan p) limits n s) ≡ but_next s → IsIdle (n + 1) s.part
unseen_idle plan p limits n s is well active due own same =
    let at = end_some plan p n own in
    let decides : after_tick_until ((own_ticks plan p).end_at n) (own_ticks plan p) limits n s ≡ decided (own_ticks plan p) limits n (at.0 - n) s =
    ap (λ (o : Option ℕ). after_tick_until o (own_ticks plan p) limits n s) at.1
    ∙ ap (λ (b : Bool). if b then decided (own_ticks plan p) limits n (at.0 - n) s else s) (ap (is_at n) due ∙ eq-eqb n n refl) in
    still_idle (own_ticks plan p) limits n (at.0 - n) s well active (omega (arith, (window_whole plan p n at.0 is at.1).0)) (sym (ap but_next decides) ∙ same)

-- ---- a partition that has nothing to do

split : (ticks : OwnTicks) (limits : Limits) (a b c : ℕ) (s : State) → a ≤ b → b ≤ c → after_ticks ticks limits a (c - a) s ≡ after_ticks ticks limits b (c - b) (after_ticks ticks limits a (b - a) s)
split ticks limits a b c s le later =
    let all : c - a ≡ b - a + (c - b) = omega (arith, le, later) in
    let at : a + (b - a) ≡ b = omega (arith, le) in
    ap (λ (n : ℕ). after_ticks ticks limits a n s) all
    ∙ (join ticks limits a (b - a) (c - b) s ∙ ap (λ (k : ℕ). after_ticks ticks limits k (c - b) (after_ticks ticks limits a (b - a) s)) at)

-- over ticks before its next decision, then ticks up to which it has nothing to do, and then ticks that are not its own
pub idle_later : (plan : WindowPlan) (p : ℕ) (limits : Limits) (now next until k : ℕ) (s : State) → IsPlan plan → IsIdle until s.part → s.account.next ≡ Some next → IsOwn plan p next → now ≤ next → next ≤ until → until ≤ k
    → ((j : ℕ) → until ≤ j → j < k → (own_ticks plan p).end_at j ≡ None) → after_ticks (own_ticks plan p) limits now (k - now) s ≡ waiting_from (own_ticks plan p) until s
idle_later plan p limits now next until k s is idle due own from le later none =
    split ticks limits now next k s from (omega (arith, le, later))
    ∙ (ap (after_ticks ticks limits next (k - next)) before
    ∙ (split ticks limits next until k s le later
    ∙ (ap (after_ticks ticks limits until (k - until)) waits
    ∙ still_never ticks limits until (k - until) (waiting_from ticks until s) (λ j at below _. none j at (omega (arith, below, later))))))
  where
    ticks : OwnTicks
    ticks = own_ticks plan p

    before : after_ticks (own_ticks plan p) limits now (next - now) s ≡ s
    before =
        still_on (own_ticks plan p) limits now (next - now) s
        (λ j at below. not_due s.account.next now next j (λ i e at. let same : i ≡ next = cc in omega (arith, same)) at (omega (arith, below, from)))

    at_own : s.account.next ≡ next_from (own_ticks plan p) s.part.status next
    at_own =
        let end = end_some plan p next own in
        due ∙ sym (next_own (own_ticks plan p) s.part.status next idle.active (next_one plan p next next is (first_by plan p next end.0 end.1)))

    waits : after_ticks (own_ticks plan p) limits next (until - next) s ≡ waiting_from (own_ticks plan p) until s
    waits =
        let last : next + (until - next) ≡ until = omega (arith, le) in
        idle_ticks plan p limits next until (until - next) s is idle at_own (omega (arith, le)) ∙ ap (λ (j : ℕ). waiting_from (own_ticks plan p) j s) last
