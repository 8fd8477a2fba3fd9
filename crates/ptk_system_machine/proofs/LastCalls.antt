-- Over which ticks nothing happens to a partition behind a call.
use Rattle.std.proofs.Common.{◌≡◌, ◌≢◌, ℕ, zero, suc, ◌+◌, ◌-◌, ◌<◌, ◌≤◌, Bool, true, false, ◌==◌, List, length, Some, ◌⊎◌, inl, inr, refl, sym, ap, subst, ◌∙◌, eqb-true, eq-eqb, arith}
use Rattle.std.proofs.lemmas.Bool.{cases_lt, false≢true}
use Rattle.ptk_words.specs.declared.TheConstants.{ECALL}
use Rattle.ptk_words.specs.declared.sections.Entry.{Entry}
use Rattle.ptk_words.specs.declared.sections.Limits.{Limits}
use Rattle.ptk_words_model.specs.Windows.{OwnTicks, WindowPlan, IsPlan, own_ticks}
use Rattle.ptk_words_model.specs.State.{Part, State}
use Rattle.ptk_words_laws.proofs.TicksInARow.{next_own}
use Rattle.ptk_window.specs.declared.near.Turn.{Turn}
use Rattle.ptk_trace.specs.KeptSteps.{KeptSteps}
use Rattle.ptk_kernel.specs.Decisions.{AreQuietSteps, Progress, begun, decided_on, decisions}
use Rattle.ptk_kernel.specs.Kept.{Kept, limits_at, part_at}
use Rattle.ptk_kernel.specs.Rows.{HasGone, IsCallLast}
use Rattle.ptk_kernel.proofs.Decisions.{step_ticks, steps_later}
use Rattle.ptk_system_machine.specs.Accounts.{KeptAccount}
use Rattle.ptk_system_machine.specs.Steady.{IsStillBehindCall, states_from}
use Rattle.ptk_system_machine.specs.Turns.{IsComing, IsInWindow, IsStillUntil}
use Rattle.ptk_system_machine.specs.Whole.{Whole, account_at, state_at}
use Rattle.ptk_system_machine.proofs.Decisions.{HaveGone, IsLater, decisions_gone, first_one, gone_state, led_gone, next_active, one_more, own_later, step_gone}
use Rattle.ptk_system_machine.proofs.Steady.{less_self, states_later}
use Rattle.ptk_system_machine.proofs.Ticks.{not_due, still_on}

-- ---- the ticks

-- the same states over the same ticks
pub call_eq : (f g : ℕ → State) (from to : ℕ) → ((k : ℕ) → from ≤ k → k ≤ to → g k ≡ f k) → IsStillBehindCall f from to → IsStillBehindCall g from to
call_eq f g from to same still = λ k le lt more entry last word.
    let here : g k ≡ f k = same k le (omega (arith, lt)) in
    let next : g (k + 1) ≡ f (k + 1) = same (k + 1) (omega (arith, le)) (omega (arith, lt)) in
    let end : g to ≡ f to = same to (omega (arith, le, lt)) (omega arith) in
    let stepped : (f k).account.steps < (f (k + 1)).account.steps =
    subst (λ (u : State). (f k).account.steps < u.account.steps) next (subst (λ (u : State). u.account.steps < (g (k + 1)).account.steps) here more) in
    end ∙ (still k le lt stepped entry (sym (ap (λ (u : State). u.part.last) next) ∙ last) word ∙ sym next)

-- a state that stays
pub call_still : (s : State) (states : ℕ → State) (from to : ℕ) → ((k : ℕ) → from ≤ k → k ≤ to → states k ≡ s) → IsStillBehindCall states from to
call_still s states from to same = λ k le lt more entry last word.
    same to (omega (arith, le, lt)) (omega arith) ∙ sym (same (k + 1) (omega (arith, le)) (omega (arith, lt)))

-- no tick
pub call_start : (states : ℕ → State) (from : ℕ) → IsStillBehindCall states from from
call_start states from = λ k le lt more entry last word. absurd (omega (arith, le, lt))

-- and then ticks with which the state stays
pub call_up : (states : ℕ → State) (from mid to : ℕ) → from ≤ mid → mid ≤ to → ((k : ℕ) → mid ≤ k → k ≤ to → states k ≡ states mid) → IsStillBehindCall states from mid → IsStillBehindCall states from to
call_up states from mid to le later same still = λ k on lt more entry last word. by k on lt more entry last word (cases_lt k mid)
  where
    by : (k : ℕ) → from ≤ k → k < to → (states k).account.steps < (states (k + 1)).account.steps → (entry : Entry) → (states (k + 1)).part.last ≡ Some entry → entry.word ≡ ECALL → (k < mid) ⊎ (mid ≤ k) → states to ≡ states (k + 1)
    by k on lt more entry last word (inl before) = same to later (omega arith) ∙ still k on before more entry last word
    by k on lt more entry last word (inr behind) = same to later (omega arith) ∙ sym (same (k + 1) (omega (arith, behind)) (omega (arith, lt)))

-- ticks with which the state stays, and then these
pub call_later : (f g : ℕ → State) (from mid to : ℕ) → from ≤ mid → mid ≤ to → ((k : ℕ) → from ≤ k → k ≤ mid → f k ≡ f from) → ((k : ℕ) → mid ≤ k → k ≤ to → f k ≡ g k) → IsStillBehindCall g mid to → IsStillBehindCall f from to
call_later f g from mid to le later same here still = λ k on lt more entry last word. by k on lt more entry last word (cases_lt k mid)
  where
    then_f : IsStillBehindCall f mid to
    then_f = call_eq g f mid to here still

    by : (k : ℕ) → from ≤ k → k < to → (f k).account.steps < (f (k + 1)).account.steps → (entry : Entry) → (f (k + 1)).part.last ≡ Some entry → entry.word ≡ ECALL → (k < mid) ⊎ (mid ≤ k) → f to ≡ f (k + 1)
    by k on lt more entry last word (inl before) =
        let stays : f (k + 1) ≡ f k = same (k + 1) (omega (arith, on)) (omega (arith, before)) ∙ sym (same k on (omega (arith, before))) in
        absurd (less_self (f k).account.steps (subst (λ (u : State). (f k).account.steps < u.account.steps) stays more))
    by k on lt more entry last word (inr behind) = then_f k behind lt more entry last word

-- ---- decisions one after the other

-- the state at this tick is the one after some of so many decisions
abbrev IsAfterSome : OwnTicks → Limits → ℕ → ℕ → State → ℕ → Type 0
IsAfterSome ticks limits tick n s k = (j : ℕ) × (j < n) × (states_from ticks limits tick s k ≡ gone_state ticks limits tick (suc j) s)

one_of : (ticks : OwnTicks) (limits : Limits) (tick n mid k : ℕ) (s : State) → (k < mid) ⊎ (mid ≤ k) → (k < mid → IsAfterSome ticks limits tick n s (k + 1)) → (mid ≤ k → states_from ticks limits tick s (k + 1) ≡ gone_state ticks limits tick (suc n) s)
    → IsAfterSome ticks limits tick (suc n) s (k + 1)
one_of ticks limits tick n mid k s (inl before) first last = let found = first before in (found.0, omega (arith, found.1), found.2)
one_of ticks limits tick n mid k s (inr behind) first last = (n, omega arith, last behind)

-- so it is at each tick that they take
decided_at : (ticks : OwnTicks) (limits : Limits) (t tick end n : ℕ) (s : State) → IsLater ticks → ((k : ℕ) → tick ≤ k → k < end → ticks.end_at k ≡ Some end) → ((k : ℕ) → tick ≤ k → k < end → ticks.next_of k ≡ Some k)
    → s.account.next ≡ Some tick → AreQuietSteps limits t n (begun tick s.part) → (decisions limits n (begun tick s.part)).tick ≤ end → (k : ℕ) → tick ≤ k → k < (decisions limits n (begun tick s.part)).tick
    → IsAfterSome ticks limits tick n s (k + 1)
unfolding decisions
decided_at ticks limits t tick end zero s later ends own due are le k from lt = absurd (omega (arith, from, lt))
decided_at ticks limits t tick end (suc zero) s later ends own due are le k from lt =
    let is = are 0 (omega arith) in
    let at : (decided_on limits (begun tick s.part)).tick ≡ tick + is.0 = step_ticks limits t is.0 (begun tick s.part) is.1 in
    let one : 1 ≤ is.0 = is.1.some in
    let within : tick + is.0 ≤ end = omega (arith, at, le) in
    let ends_at : ticks.end_at tick ≡ Some end = ends tick (omega arith) (omega (arith, within, one)) in (
      0,
      omega arith,
      step_gone ticks limits t tick is.0 end (k + 1 - tick) s later ends_at within due is.1 (omega (arith, from)) (omega (arith, lt, at)) ∙ first_one ticks limits t tick is.0 s is.1,
    )
decided_at ticks limits t tick end (suc (suc n)) s later ends own due are le k from lt =
    let is = are (suc n) (omega arith) in
    let fewer : AreQuietSteps limits t (suc n) (begun tick s.part) = λ j less. are j (omega (arith, less)) in
    let at : (decided_on limits (decisions limits (suc n) (begun tick s.part))).tick ≡ (decisions limits (suc n) (begun tick s.part)).tick + is.0 = step_ticks limits t is.0 (decisions limits (suc n) (begun tick s.part)) is.1 in
    let one : 1 ≤ is.0 = is.1.some in
    let within : (decisions limits (suc n) (begun tick s.part)).tick + is.0 ≤ end = omega (arith, at, le) in
    let here : tick + suc n ≤ (decisions limits (suc n) (begun tick s.part)).tick = steps_later limits t (suc n) (begun tick s.part) fewer in
    let before : HaveGone ticks limits tick (suc n) s = decisions_gone ticks limits t tick end (suc n) s later ends own due fewer (omega (arith, within)) (omega arith) in
    let ends_at : ticks.end_at (decisions limits (suc n) (begun tick s.part)).tick ≡ Some end = ends (decisions limits (suc n) (begun tick s.part)).tick (omega (arith, here)) (omega (arith, within, one)) in
    let next : (gone_state ticks limits tick (suc n) s).account.next ≡ Some (decisions limits (suc n) (begun tick s.part)).tick
    = next_own ticks (decisions limits (suc n) (begun tick s.part)).part.status (decisions limits (suc n) (begun tick s.part)).tick is.1.active (own (decisions limits (suc n) (begun tick s.part)).tick (omega (arith, here)) (omega (arith, within, one))) in
    one_of ticks limits tick (suc n) (decisions limits (suc n) (begun tick s.part)).tick k s (cases_lt k (decisions limits (suc n) (begun tick s.part)).tick)
    (λ sooner. decided_at ticks limits t tick end (suc n) s later ends own due fewer (omega (arith, within)) k from sooner)
    (λ behind.
    sym (states_later ticks limits tick (decisions limits (suc n) (begun tick s.part)).tick (k + 1) s (omega (arith, here)) (omega (arith, behind)))
    ∙ (ap (λ (u : State). states_from ticks limits (decisions limits (suc n) (begun tick s.part)).tick u (k + 1)) before.0
    ∙ (step_gone ticks limits t (decisions limits (suc n) (begun tick s.part)).tick is.0 end (k + 1 - (decisions limits (suc n) (begun tick s.part)).tick) (gone_state ticks limits tick (suc n) s) later ends_at within next is.1 (omega (arith, behind)) (omega (arith, lt, at))
    ∙ one_more ticks limits t tick (suc n) is.0 s is.1)))

-- where a call is the last of them, nothing happens behind it
call_decisions : (ticks : OwnTicks) (limits : Limits) (t tick end n : ℕ) (s : State) → IsLater ticks → IsInWindow ticks tick end → s.account.next ≡ Some tick → AreQuietSteps limits t n (begun tick s.part) → (decisions limits n (begun tick s.part)).tick ≤ end
    → IsCallLast limits n (begun tick s.part) → IsStillBehindCall (states_from ticks limits tick s) tick (decisions limits n (begun tick s.part)).tick
call_decisions ticks limits t tick end n s later window due are le is_last = λ k from lt more entry last word.
    let found = decided_at ticks limits t tick end n s later window.ends window.own.next due are le k from lt in
    let there : (decisions limits (suc found.0) (begun tick s.part)).part.last ≡ Some entry = sym (ap (λ (u : State). u.part.last) found.2) ∙ last in
    let all : suc found.0 ≡ n = is_last found.0 found.1 entry there word in
    (decisions_gone ticks limits t tick end n s later window.ends window.own.next due are le (omega (arith, found.1))).0
    ∙ (ap (λ (m : ℕ). gone_state ticks limits tick m s) (sym all) ∙ sym found.2)

call_some : (ticks : OwnTicks) (limits : Limits) (t tick end n reached till : ℕ) (s : State) (new : Part) → IsLater ticks → IsInWindow ticks tick end → s.account.next ≡ Some tick → reached ≤ end → reached ≤ till
    → ((k : ℕ) → ticks.next_of reached ≡ Some k → till ≤ k) → AreQuietSteps limits t n (begun tick s.part) → decisions limits n (begun tick s.part) ≡ begun reached new → IsCallLast limits n (begun tick s.part) → 1 ≤ n
    → IsStillBehindCall (states_from ticks limits tick s) tick till
call_some ticks limits t tick end n reached till s new later window due within up next are led is_last some =
    let le : (decisions limits n (begun tick s.part)).tick ≤ end = subst (λ (y : Progress). y.tick ≤ end) (sym led) within in
    let made = led_gone ticks limits tick n reached s new led (decisions_gone ticks limits t tick end n s later window.ends window.own.next due are le some) in
    let from : tick + n ≤ reached = subst (λ (y : Progress). tick + n ≤ y.tick) led (steps_later limits t n (begun tick s.part) are) in
    let still : IsStillBehindCall (states_from ticks limits tick s) tick reached =
    subst (λ (y : Progress). IsStillBehindCall (states_from ticks limits tick s) tick y.tick) led (call_decisions ticks limits t tick end n s later window due are le is_last) in
    call_up (states_from ticks limits tick s) tick reached till (omega (arith, from)) up
    (λ k on within_k.
    sym (states_later ticks limits tick reached k s (omega (arith, from)) on)
    ∙ still_on ticks limits reached (k - reached) (states_from ticks limits tick s reached)
    (λ j at below. not_due (states_from ticks limits tick s reached).account.next reached till j
    (λ i is above. next i (next_active ticks new.status reached i (sym (ap (λ (u : State). u.account.next) made.0) ∙ is))) at (omega (arith, below, on, within_k))))
    still

call_steps : (ticks : OwnTicks) (limits : Limits) (t tick end n reached till : ℕ) (s : State) (new : Part) → IsLater ticks → IsInWindow ticks tick end → s.account.next ≡ Some tick → reached ≤ end → reached ≤ till
    → ((k : ℕ) → ticks.next_of reached ≡ Some k → till ≤ k) → AreQuietSteps limits t n (begun tick s.part) → decisions limits n (begun tick s.part) ≡ begun reached new → IsCallLast limits n (begun tick s.part)
    → IsStillBehindCall (states_from ticks limits tick s) tick till
unfolding decisions
call_steps ticks limits t tick end zero reached till s new later window due within up next are led is_last =
    let at : tick ≡ reached = ap (λ (y : Progress). y.tick) led in
    let none : till ≤ tick = next tick (ap ticks.next_of (sym at) ∙ window.own.next tick (omega arith) window.before) in
    λ k from lt more entry last word. absurd (omega (arith, none, from, lt))
call_steps ticks limits t tick end (suc m) reached till s new later window due within up next are led is_last =
    call_some ticks limits t tick end (suc m) reached till s new later window due within up next are led is_last (omega arith)

-- ---- a partition of the tables

-- of steps in a row of which a call is the last: behind it nothing happens up to the partition's next decision
pub call_row : (plan : WindowPlan) (p to n reached till t : ℕ) (turn : Turn) (kept : Kept) (accounts : List KeptAccount) (new : Part) (before after : KeptSteps) (from : Whole)
    → IsPlan plan → record { kept = kept; accounts = accounts } ≡ from → IsComing (own_ticks plan p) to (account_at p from).account.next turn → turn.start < to → reached ≤ turn.end → reached ≤ till
    → ((k : ℕ) → (own_ticks plan p).next_of reached ≡ Some k → till ≤ k)
    → HasGone (limits_at p kept) t turn.start n reached (part_at p kept) new before after → IsCallLast (limits_at p kept) n (begun turn.start (part_at p kept))
    → IsStillBehindCall (states_from (own_ticks plan p) (limits_at p from.kept) turn.start (state_at p from)) turn.start till
call_row plan p to n reached till t turn kept accounts new before after from plan_is at coming order within up next gone is_last =
    let there : IsComing (own_ticks plan p) to (account_at p (record { kept = kept; accounts = accounts })).account.next turn =
    subst (λ (w : Whole). IsComing (own_ticks plan p) to (account_at p w).account.next turn) (sym at) coming in
    subst (λ (w : Whole). IsStillBehindCall (states_from (own_ticks plan p) (limits_at p w.kept) turn.start (state_at p w)) turn.start till) at
    (call_steps (own_ticks plan p) (limits_at p kept) t turn.start turn.end n reached till (state_at p (record { kept = kept; accounts = accounts })) new
    (own_later plan p plan_is) (there.window order) (there.due order) within up next gone.steps gone.led is_last)

-- the same turn of the same state
pub call_first : (plan : WindowPlan) (p reached : ℕ) (first now : Turn) (old self : Whole) → now ≡ first → self ≡ old
    → IsStillBehindCall (states_from (own_ticks plan p) (limits_at p self.kept) now.start (state_at p self)) now.start reached
    → IsStillBehindCall (states_from (own_ticks plan p) (limits_at p old.kept) first.start (state_at p old)) first.start reached
call_first plan p reached first now old self turn same still =
    subst (λ (w : Whole). IsStillBehindCall (states_from (own_ticks plan p) (limits_at p w.kept) first.start (state_at p w)) first.start reached) same
    (subst (λ (x : Turn). IsStillBehindCall (states_from (own_ticks plan p) (limits_at p self.kept) x.start (state_at p self)) x.start reached) turn still)

-- a partition to which nothing happens
pub call_stays : (ticks : OwnTicks) (p tick to : ℕ) (old : Whole) → IsStillUntil ticks (limits_at p old.kept) tick to (state_at p old) → IsStillBehindCall (states_from ticks (limits_at p old.kept) tick (state_at p old)) tick to
call_stays ticks p tick to old still = call_still (state_at p old) (states_from ticks (limits_at p old.kept) tick (state_at p old)) tick to still

-- ---- each partition

-- a row of one partition up to a tick before which nothing happens to the others: behind a call nothing happens to any
pub call_each : (plan : WindowPlan) (p tick start reached : ℕ) (old : Whole)
    → IsStillUntil (own_ticks plan p) (limits_at p old.kept) tick start (state_at p old) → tick ≤ start → start ≤ reached
    → ((q : ℕ) → q < length old.accounts → q ≢ p → IsStillUntil (own_ticks plan q) (limits_at q old.kept) tick reached (state_at q old))
    → IsStillBehindCall (states_from (own_ticks plan p) (limits_at p old.kept) start (state_at p old)) start reached
    → (q : ℕ) → q < length old.accounts → IsStillBehindCall (states_from (own_ticks plan q) (limits_at q old.kept) tick (state_at q old)) tick reached
call_each plan p tick start reached old still from on others rows q below = by (q == p) refl
  where
    at : (k : ℕ) → tick ≤ k → k ≤ start → states_from (own_ticks plan p) (limits_at p old.kept) tick (state_at p old) k ≡ states_from (own_ticks plan p) (limits_at p old.kept) tick (state_at p old) tick
    at k le within = still k le within ∙ sym (still tick (omega arith) from)

    own : IsStillBehindCall (states_from (own_ticks plan p) (limits_at p old.kept) tick (state_at p old)) tick reached
    own =
        call_later (states_from (own_ticks plan p) (limits_at p old.kept) tick (state_at p old)) (states_from (own_ticks plan p) (limits_at p old.kept) start (state_at p old)) tick start reached from on at
        (λ k le within.
        sym (states_later (own_ticks plan p) (limits_at p old.kept) tick start k (state_at p old) from le)
        ∙ ap (λ (u : State). states_from (own_ticks plan p) (limits_at p old.kept) start u k) (still start from (omega arith)))
        rows

    by : (b : Bool) → (q == p) ≡ b → IsStillBehindCall (states_from (own_ticks plan q) (limits_at q old.kept) tick (state_at q old)) tick reached
    by true e =
        let one : q ≡ p = eqb-true q p e in
        subst (λ (r : ℕ). IsStillBehindCall (states_from (own_ticks plan r) (limits_at r old.kept) tick (state_at r old)) tick reached) (sym one) own
    by false e =
        let differ : q ≢ p = λ one. false≢true (sym e ∙ eq-eqb q p one) in
        call_still (state_at q old) (states_from (own_ticks plan q) (limits_at q old.kept) tick (state_at q old)) tick reached (others q below differ)
