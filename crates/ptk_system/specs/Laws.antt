-- What holds of two systems, and of one processor.
use Rattle.std.specs.Prelude.{◌≡◌, ◌≢◌, ℕ, ◌+◌, ◌-◌, ◌<◌, ◌≤◌, Some, None, length}
use Rattle.ptk_words.specs.declared.sections.Limits.{Limits}
use Rattle.ptk_words_model.specs.Windows.{OwnTicks, WindowPlan, IsPlan, own_ticks}
use Rattle.ptk_words_model.specs.declared.Spent.TheVariants.{Step}
use Rattle.ptk_words_model.specs.State.{Part, State}
use Rattle.ptk_words_model.specs.Decision.{spent_by_decision}
use Rattle.ptk_words_model.specs.Run.{decided}
use Rattle.ptk_system.specs.Missing.{image_in}
use Rattle.ptk_system.specs.World.{World, at_tick, section_at, state_of}

-- a partition of one system and one of another are given the same: own ticks and window ends, numbers, image and input
pub record SameView (a : World) (p : ℕ) (b : World) (q : ℕ) : Type 0 where
  pub ends : (t : ℕ) → (own_ticks a.config.plan p).end_at t ≡ (own_ticks b.config.plan q).end_at t
  pub limits : (section_at a.config p).limits ≡ (section_at b.config q).limits
  pub image : image_in a.files (section_at a.config p).image ≡ image_in b.files (section_at b.config q).image
  pub input : (section_at a.config p).input ≡ (section_at b.config q).input

-- every other section names no image
abbrev pub IsIdleBut : ℕ → World → Type 0
IsIdleBut q world = (r : ℕ) → r < length world.config.sections → r ≢ q → (section_at world.config r).image ≡ None

-- all ticks of a decision's step lie in one window of the partition
abbrev pub StepStaysInWindow : Type 0
StepStaysInWindow =
    (plan : WindowPlan) (p tick end cost : ℕ) (limits : Limits) (s : Part) → IsPlan plan →
    (own_ticks plan p).end_at tick ≡ Some end → spent_by_decision limits tick (end - tick) s ≡ Step cost →
    (k : ℕ) → tick ≤ k → k < tick + cost → (own_ticks plan p).end_at k ≡ Some end

-- with a tick a partition's state stays, unless the tick is its own and its next decision's: then that decision takes place, with the window's rest as its room
pub record IsByDecision (ticks : OwnTicks) (limits : Limits) (tick : ℕ) (before after : State) : Type 0 where
  pub own : (end : ℕ) → ticks.end_at tick ≡ Some end → before.account.next ≡ Some tick → after ≡ decided ticks limits tick (end - tick) before
  pub not_own : ticks.end_at tick ≡ None → after ≡ before
  pub not_due : before.account.next ≢ Some tick → after ≡ before

-- at the tick a partition of a system makes a step of this cost: the tick is its own and its next decision's, and the room is its window's rest
pub record IsStepAt (world : World) (p tick cost : ℕ) : Type 0 where
  pub end : ℕ
  pub own : (own_ticks world.config.plan p).end_at tick ≡ Some end
  pub due : (state_of (at_tick tick world) p).account.next ≡ Some tick
  pub spent : spent_by_decision (section_at world.config p).limits tick (end - tick) (state_of (at_tick tick world) p).part ≡ Step cost

-- no tick is one of a step of partition p and one of a step of partition q
abbrev pub StepsAreApart : World → ℕ → ℕ → Type 0
StepsAreApart world p q =
    (t cost u other k : ℕ) → IsStepAt world p t cost → IsStepAt world q u other → t ≤ k → k < t + cost → u ≤ k → ¬ (k < u + other)
