-- Over which ticks a partition's threads stay as they are.
use Rattle.std.proofs.Common.{◌≡◌, ◌≢◌, ℕ, ◌+◌, ◌-◌, ◌<◌, ◌≤◌, Bool, true, false, ◌==◌, length, Some, ◌⊎◌, inl, inr, refl, sym, ap, subst, ◌∙◌, eqb-true, eq-eqb, arith}
use Rattle.std.proofs.lemmas.Bool.{cases_lt, false≢true}
use Rattle.ptk_words.specs.declared.sections.Limits.{Limits}
use Rattle.ptk_words_model.specs.Windows.{OwnTicks, WindowPlan, own_ticks}
use Rattle.ptk_words_model.specs.State.{Part, State}
use Rattle.ptk_words_laws.specs.Quiet.{after_ticks}
use Rattle.ptk_words_laws.proofs.TicksInARow.{join}
use Rattle.ptk_kernel.specs.Kept.{limits_at, part_at}
use Rattle.ptk_kernel.specs.Steady.{IsOfRunning, IsSteady}
use Rattle.ptk_kernel.proofs.Steady.{steady_on, steady_same}
pub use Rattle.ptk_kernel.proofs.Steady.{awaited_contended}
use Rattle.ptk_system_machine.specs.Steady.{AreSteady, states_from}
use Rattle.ptk_system_machine.specs.Turns.{IsStillUntil}
use Rattle.ptk_system_machine.specs.Whole.{IsWhole, Whole, account_at, gone_on, state_at}
use Rattle.ptk_system_machine.proofs.States.{state_at-put}
use Rattle.ptk_system_machine.proofs.Ticks.{not_due, still_on}

-- ---- the ticks

-- no tick changes nothing
no_ticks : (ticks : OwnTicks) (limits : Limits) (tick n : ℕ) (s : State) → n ≡ 0 → after_ticks ticks limits tick n s ≡ s
unfolding after_ticks
no_ticks ticks limits tick n s none = ap (λ (k : ℕ). after_ticks ticks limits tick k s) none

-- the states from a later tick on are those from the first one on
pub states_later : (ticks : OwnTicks) (limits : Limits) (from mid k : ℕ) (s : State) → from ≤ mid → mid ≤ k → states_from ticks limits mid (states_from ticks limits from s mid) k ≡ states_from ticks limits from s k
states_later ticks limits from mid k s le on =
    let at : from + (mid - from) ≡ mid = omega (arith, le) in
    let all : mid - from + (k - mid) ≡ k - from = omega (arith, le, on) in
    ap (λ (t : ℕ). after_ticks ticks limits t (k - mid) (after_ticks ticks limits from (mid - from) s)) (sym at)
    ∙ (sym (join ticks limits from (mid - from) (k - mid) s)
    ∙ ap (λ (n : ℕ). after_ticks ticks limits from n s) all)

-- ---- steady ticks

pub less_self : (n : ℕ) → n < n → ⊥
less_self n lt = omega (arith, lt)

-- the same states over the same ticks
pub steady_eq : (s : Part) (f g : ℕ → State) (from to : ℕ) → ((k : ℕ) → from ≤ k → k ≤ to → g k ≡ f k) → AreSteady s f from to → AreSteady s g from to
steady_eq s f g from to same are = record {
  parts = λ k le within. subst (λ (u : State). IsSteady s u.part) (sym (same k le within)) (are.parts k le within);
  lost = λ k le within.
      ap (λ (u : State). u.account.lost) (same k le within)
      ∙ (are.lost k le within ∙ sym (ap (λ (u : State). u.account.lost) (same from (omega arith) (omega (arith, le, within)))));
  steps = λ k le lt more.
      let here : g k ≡ f k = same k le (omega (arith, lt)) in
      let next : g (k + 1) ≡ f (k + 1) = same (k + 1) (omega (arith, le)) (omega (arith, lt)) in
      subst (λ (u : State). IsOfRunning u.part) (sym next)
      (are.steps k le lt (subst (λ (u : State). (f k).account.steps < u.account.steps) next (subst (λ (u : State). u.account.steps < (g (k + 1)).account.steps) here more)));
}

-- a state that stays is steady
pub steady_still : (s : State) (states : ℕ → State) (from to : ℕ) → ((k : ℕ) → from ≤ k → k ≤ to → states k ≡ s) → AreSteady s.part states from to
steady_still s states from to same = record {
  parts = λ k le within. subst (λ (u : State). IsSteady s.part u.part) (sym (same k le within)) (steady_same s.part);
  lost = λ k le within. ap (λ (u : State). u.account.lost) (same k le within) ∙ sym (ap (λ (u : State). u.account.lost) (same from (omega arith) (omega (arith, le, within))));
  steps = λ k le lt more.
      let here : states k ≡ s = same k le (omega (arith, lt)) in
      let next : states (k + 1) ≡ s = same (k + 1) (omega (arith, le)) (omega (arith, lt)) in
      absurd (less_self s.account.steps (subst (λ (u : State). s.account.steps < u.account.steps) next (subst (λ (u : State). u.account.steps < (states (k + 1)).account.steps) here more)));
}

-- no tick
pub steady_start : (ticks : OwnTicks) (limits : Limits) (tick : ℕ) (s : State) → AreSteady s.part (states_from ticks limits tick s) tick tick
steady_start ticks limits tick s = steady_still s (states_from ticks limits tick s) tick tick (λ k le within. no_ticks ticks limits tick (k - tick) s (omega (arith, within)))

-- steady ticks, and then more of them
pub steady_further : (s : Part) (f g : ℕ → State) (from mid to : ℕ) → from ≤ mid → mid ≤ to → AreSteady s f from mid → AreSteady (f mid).part g mid to → ((k : ℕ) → mid ≤ k → k ≤ to → f k ≡ g k) → AreSteady s f from to
steady_further s f g from mid to le later first then same = record {
  parts = λ k on within. part_by k on within (cases_lt k mid);
  lost = λ k on within. lost_by k on within (cases_lt k mid);
  steps = λ k on lt more. step_by k on lt more (cases_lt k mid);
}
  where
    then_f : AreSteady (f mid).part f mid to
    then_f = steady_eq (f mid).part g f mid to same then

    part_by : (k : ℕ) → from ≤ k → k ≤ to → (k < mid) ⊎ (mid ≤ k) → IsSteady s (f k).part
    part_by k on within (inl before) = first.parts k on (omega (arith, before))
    part_by k on within (inr behind) = steady_on s (f mid).part (f k).part (first.parts mid le (omega arith)) (then_f.parts k behind within)

    lost_by : (k : ℕ) → from ≤ k → k ≤ to → (k < mid) ⊎ (mid ≤ k) → (f k).account.lost ≡ (f from).account.lost
    lost_by k on within (inl before) = first.lost k on (omega (arith, before))
    lost_by k on within (inr behind) = then_f.lost k behind within ∙ first.lost mid le (omega arith)

    step_by : (k : ℕ) → from ≤ k → k < to → (f k).account.steps < (f (k + 1)).account.steps → (k < mid) ⊎ (mid ≤ k) → IsOfRunning (f (k + 1)).part
    step_by k on lt more (inl before) = first.steps k on before more
    step_by k on lt more (inr behind) = then_f.steps k behind lt more

-- steady ticks of a partition of the tables, and then more of them
pub steady_gone : (ticks : OwnTicks) (p from mid to : ℕ) (old new : Whole) → IsWhole old.kept old.accounts → p < length old.accounts → from ≤ mid → mid ≤ to → new ≡ gone_on ticks p from (mid - from) old
    → AreSteady (part_at p old.kept) (states_from ticks (limits_at p old.kept) from (state_at p old)) from mid
    → AreSteady (part_at p new.kept) (states_from ticks (limits_at p new.kept) mid (state_at p new)) mid to
    → AreSteady (part_at p old.kept) (states_from ticks (limits_at p old.kept) from (state_at p old)) from to
steady_gone ticks p from mid to old new is lt le later gone first then =
    let s : State = state_at p old in
    let limits : Limits = limits_at p old.kept in
    let put : AreSteady (state_at p (gone_on ticks p from (mid - from) old)).part (states_from ticks (limits_at p old.kept) mid (state_at p (gone_on ticks p from (mid - from) old))) mid to =
    subst (λ (w : Whole). AreSteady (part_at p w.kept) (states_from ticks (limits_at p w.kept) mid (state_at p w)) mid to) gone then in
    let at : AreSteady (states_from ticks (limits_at p old.kept) from (state_at p old) mid).part (states_from ticks (limits_at p old.kept) mid (states_from ticks (limits_at p old.kept) from (state_at p old) mid)) mid to =
    subst (λ (u : State). AreSteady u.part (states_from ticks (limits_at p old.kept) mid u) mid to) (state_at-put p (after_ticks ticks (limits_at p old.kept) from (mid - from) (state_at p old)) old is lt) put in
    steady_further (part_at p old.kept) (states_from ticks (limits_at p old.kept) from (state_at p old)) (states_from ticks (limits_at p old.kept) mid (states_from ticks (limits_at p old.kept) from (state_at p old) mid)) from mid to le later first at
    (λ k on within. sym (states_later ticks (limits_at p old.kept) from mid k (state_at p old) le on))

-- ---- a partition of the tables

-- so many steady ticks, and then ticks at which it decides nothing
pub steady_up : (ticks : OwnTicks) (p tick n to : ℕ) (old new : Whole) → IsWhole old.kept old.accounts → p < length old.accounts → tick + n ≤ to → ((k : ℕ) → (account_at p new).account.next ≡ Some k → to ≤ k)
    → new ≡ gone_on ticks p tick n old → AreSteady (part_at p old.kept) (states_from ticks (limits_at p old.kept) tick (state_at p old)) tick (tick + n)
    → AreSteady (part_at p old.kept) (states_from ticks (limits_at p old.kept) tick (state_at p old)) tick to
steady_up ticks p tick n to old new is lt le before gone first =
    let same : n ≡ tick + n - tick = omega arith in
    steady_gone ticks p tick (tick + n) to old new is lt (omega arith) le (gone ∙ ap (λ (k : ℕ). gone_on ticks p tick k old) same) first
    (steady_still (state_at p new) (states_from ticks (limits_at p new.kept) (tick + n) (state_at p new)) (tick + n) to
    (λ k on within.
    still_on ticks (limits_at p new.kept) (tick + n) (k - (tick + n)) (state_at p new)
    (λ j from lt. not_due (account_at p new).account.next (tick + n) to j (λ i at later. before i at) from (omega (arith, lt, on, within)))))

-- ---- a quiet call

-- the state that a decision leaves, up to the next one
pub steady_call : (s u : State) (states : ℕ → State) (from to : ℕ) → states from ≡ s → ((k : ℕ) → from < k → k ≤ to → states k ≡ u) → IsSteady s.part u.part → u.account.lost ≡ s.account.lost → IsOfRunning u.part → AreSteady s.part states from to
steady_call s u states from to first then steady kept last = record {
  parts = λ k le within. part_by k le within (cases_lt from k);
  lost = λ k le within. lost_by k le within (cases_lt from k);
  steps = λ k le lt more. step_by k le lt;
}
  where
    part_by : (k : ℕ) → from ≤ k → k ≤ to → (from < k) ⊎ (k ≤ from) → IsSteady s.part (states k).part
    part_by k le within (inl after) = subst (λ (v : State). IsSteady s.part v.part) (sym (then k after within)) steady
    part_by k le within (inr not) =
        let at : k ≡ from = omega (arith, le, not) in
        subst (λ (v : State). IsSteady s.part v.part) (sym (ap states at ∙ first)) (steady_same s.part)

    lost_by : (k : ℕ) → from ≤ k → k ≤ to → (from < k) ⊎ (k ≤ from) → (states k).account.lost ≡ (states from).account.lost
    lost_by k le within (inl after) = ap (λ (v : State). v.account.lost) (then k after within) ∙ (kept ∙ sym (ap (λ (v : State). v.account.lost) first))
    lost_by k le within (inr not) =
        let at : k ≡ from = omega (arith, le, not) in
        ap (λ (j : ℕ). (states j).account.lost) at

    step_by : (k : ℕ) → from ≤ k → k < to → IsOfRunning (states (k + 1)).part
    step_by k le lt = subst (λ (v : State). IsOfRunning v.part) (sym (then (k + 1) (omega (arith, le)) (omega (arith, lt)))) last

-- the states from a tick on begin with the one that it has
pub states_first : (ticks : OwnTicks) (limits : Limits) (tick : ℕ) (s : State) → states_from ticks limits tick s tick ≡ s
states_first ticks limits tick s = no_ticks ticks limits tick (tick - tick) s (omega arith)

-- ---- each partition

-- a row of one partition up to a tick before which nothing happens to the others is steady for each partition
pub steady_each : (plan : WindowPlan) (p tick start reached : ℕ) (old : Whole) → p < length old.accounts
    → IsStillUntil (own_ticks plan p) (limits_at p old.kept) tick start (state_at p old) → tick ≤ start → start ≤ reached
    → ((q : ℕ) → q < length old.accounts → q ≢ p → IsStillUntil (own_ticks plan q) (limits_at q old.kept) tick reached (state_at q old))
    → AreSteady (part_at p old.kept) (states_from (own_ticks plan p) (limits_at p old.kept) start (state_at p old)) start reached
    → (q : ℕ) → q < length old.accounts → AreSteady (part_at q old.kept) (states_from (own_ticks plan q) (limits_at q old.kept) tick (state_at q old)) tick reached
steady_each plan p tick start reached old lt still from on others rows q below = by (q == p) refl
  where
    at_start : states_from (own_ticks plan p) (limits_at p old.kept) tick (state_at p old) start ≡ state_at p old
    at_start = still start from (omega arith)

    own : AreSteady (part_at p old.kept) (states_from (own_ticks plan p) (limits_at p old.kept) tick (state_at p old)) tick reached
    own =
        steady_further (part_at p old.kept) (states_from (own_ticks plan p) (limits_at p old.kept) tick (state_at p old)) (states_from (own_ticks plan p) (limits_at p old.kept) start (state_at p old)) tick start reached from on
        (steady_still (state_at p old) (states_from (own_ticks plan p) (limits_at p old.kept) tick (state_at p old)) tick start (λ k le within. still k le within))
        (subst (λ (u : State). AreSteady u.part (states_from (own_ticks plan p) (limits_at p old.kept) start (state_at p old)) start reached) (sym at_start) rows)
        (λ k le within.
        sym (states_later (own_ticks plan p) (limits_at p old.kept) tick start k (state_at p old) from le)
        ∙ ap (λ (u : State). states_from (own_ticks plan p) (limits_at p old.kept) start u k) at_start)

    by : (b : Bool) → (q == p) ≡ b → AreSteady (part_at q old.kept) (states_from (own_ticks plan q) (limits_at q old.kept) tick (state_at q old)) tick reached
    by true e =
        let one : q ≡ p = eqb-true q p e in
        subst (λ (r : ℕ). AreSteady (part_at r old.kept) (states_from (own_ticks plan r) (limits_at r old.kept) tick (state_at r old)) tick reached) (sym one) own
    by false e =
        let differ : q ≢ p = λ one. false≢true (sym e ∙ eq-eqb q p one) in
        steady_still (state_at q old) (states_from (own_ticks plan q) (limits_at q old.kept) tick (state_at q old)) tick reached (others q below differ)

-- a partition to which nothing happens is steady
pub steady_stays : (ticks : OwnTicks) (p tick to : ℕ) (old : Whole) → IsStillUntil ticks (limits_at p old.kept) tick to (state_at p old)
    → AreSteady (part_at p old.kept) (states_from ticks (limits_at p old.kept) tick (state_at p old)) tick to
steady_stays ticks p tick to old still = steady_still (state_at p old) (states_from ticks (limits_at p old.kept) tick (state_at p old)) tick to still
