-- What a tick does to a partition, and where its steps lie.
use Rattle.std.proofs.Common.{◌≡◌, ◌≢◌, ℕ, ◌+◌, ◌-◌, ◌<◌, ◌≤◌, ◌==◌, Bool, true, false, Option, Some, None, length, if◌then◌else◌, refl, sym, ap, subst, ◌∙◌, eqb-true, add-one}
use Rattle.std.proofs.lemmas.Option.{MatchOption-at_some}
use Rattle.ptk_words.specs.declared.sections.Limits.{Limits}
use Rattle.ptk_words_model.specs.Windows.{OwnTicks, WindowPlan, IsOwn, IsOwnUntil, own_ticks}
use Rattle.ptk_words_model.proofs.OwnLaws.{end_of_window, own_apart, own_from}
use Rattle.ptk_words_model.specs.State.{State}
use Rattle.ptk_words_model.specs.Run.{after_tick, after_tick_until, decided, is_at}
use Rattle.ptk_config.specs.Configuration.{IsConfiguration}
use Rattle.ptk_system_machine.proofs.Ticks.{is_due}
use Rattle.ptk_system.specs.Laws.{IsByDecision, IsStepAt, StepsAreApart}
use Rattle.ptk_system.specs.World.{World, alone_in, at_tick, section_at, state_of}
use Rattle.ptk_system.proofs.Keeping.{alone_at}
use Rattle.ptk_system.proofs.Runs.{is_plan}
use Rattle.ptk_system.proofs.Views.{step_stays}

-- ---- one tick

not_due_at : (tick : ℕ) (o : Option ℕ) → o ≢ Some tick → is_at tick o ≡ false
not_due_at tick None other = refl
not_due_at tick (Some n) other = by (n == tick) refl
  where
    by : (b : Bool) → (n == tick) ≡ b → (n == tick) ≡ false
    by false e = e
    by true e = absurd (other (ap Some (eqb-true n tick e)))

not_due_stays : (ticks : OwnTicks) (limits : Limits) (tick : ℕ) (s : State) → s.account.next ≢ Some tick → (o : Option ℕ) → after_tick_until o ticks limits tick s ≡ s
not_due_stays ticks limits tick s other None = refl
not_due_stays ticks limits tick s other (Some end) = ap (λ (b : Bool). if b then decided ticks limits tick (end - tick) s else s) (not_due_at tick s.account.next other)

tick_decided : (ticks : OwnTicks) (limits : Limits) (tick : ℕ) (s : State) → IsByDecision ticks limits tick s (after_tick ticks limits tick s)
tick_decided ticks limits tick s = record {
  own = λ end own due.
      ap (λ (o : Option ℕ). after_tick_until o ticks limits tick s) own
      ∙ ap (λ (b : Bool). if b then decided ticks limits tick (end - tick) s else s) (is_due tick s.account.next due);
  not_own = λ none. ap (λ (o : Option ℕ). after_tick_until o ticks limits tick s) none;
  not_due = λ other. not_due_stays ticks limits tick s other (ticks.end_at tick);
}

-- with a tick a partition of a system decides, or stays
pub by_decision : (world : World) (p tick : ℕ) → p < length world.config.sections
    → IsByDecision (own_ticks world.config.plan p) (section_at world.config p).limits tick (state_of (at_tick tick world) p) (state_of (at_tick (tick + 1) world) p)
by_decision world p tick lt =
    let ticks : OwnTicks = own_ticks world.config.plan p in
    let limits : Limits = (section_at world.config p).limits in
    let now : State = alone_in world.config world.files p tick in
    let after : state_of (at_tick (tick + 1) world) p ≡ after_tick (own_ticks world.config.plan p) (section_at world.config p).limits tick (alone_in world.config world.files p tick) =
    alone_at world.config world.files (tick + 1) p lt ∙ ap (alone_in world.config world.files p) (add-one tick) in
    subst (λ (s : State). IsByDecision ticks limits tick s (state_of (at_tick (tick + 1) world) p)) (sym (alone_at world.config world.files tick p lt))
    (subst (IsByDecision ticks limits tick now) (sym after) (tick_decided ticks limits tick now))

-- ---- the ticks of steps

step_own : (world : World) (p tick cost k : ℕ) → IsConfiguration world.config → IsStepAt world p tick cost → tick ≤ k → k < tick + cost → IsOwn world.config.plan p k
step_own world p tick cost k is at from below =
    let plan : WindowPlan = world.config.plan in
    let end : (own_ticks world.config.plan p).end_at k ≡ Some at.end =
    step_stays world.config.plan p tick at.end cost (section_at world.config p).limits (state_of (at_tick tick world) p).part (is_plan world.config is) at.own at.spent k from below in
    own_from plan p k at.end (MatchOption-at_some (¬ IsOwn plan p k) (IsOwnUntil plan p k) at.end end (end_of_window plan p k))

-- the steps of two partitions share no tick
pub apart_steps : (world : World) (p q : ℕ) → IsConfiguration world.config → p ≢ q → StepsAreApart world p q
apart_steps world p q is differ t cost u other k mine theirs from below after before =
    own_apart world.config.plan p q k (is_plan world.config is) differ (step_own world p t cost k is mine from below) (step_own world q u other k is theirs after before)

pub ruleset decisions = (by_decision, apart_steps)
