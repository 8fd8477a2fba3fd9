-- What is true of the own ticks of an accepted plan.
use Rattle.std.specs.Prelude.{◌≡◌, ◌≢◌, ℕ, ◌+◌, ◌*◌, ◌<◌, ◌≤◌, max, List, Some, None, MatchOption, All}
use Rattle.ptk_words_model.specs.Windows.{Stage, WindowPlan, windows_in_frame, own_ticks, IsOwn, IsFirstOwn, IsOwnUntil, IsPlan, IsInForce}
use Rattle.ptk_words_model.specs.WindowFaults.{plan_fault}

-- stages without a fault are a plan, each window of a known partition
abbrev pub AcceptedIsPlan : Type 0
AcceptedIsPlan =
    (frame parts : ℕ) (stages : List Stage) → plan_fault frame parts stages ≡ None
    → IsPlan (record { frame = frame; stages = stages }) × All (λ stage. All (λ w. w.partition < parts) stage.windows) stages

-- the windows of a frame are those of the stage of the greatest number that is not above the frame's
abbrev pub InForceHolds : Type 0
InForceHolds =
    (plan : WindowPlan) (number : ℕ) (stage : Stage) → IsPlan plan → IsInForce plan.stages number stage
    → windows_in_frame plan.stages number ≡ stage.windows

-- the next own tick is the first one not before the tick, and there is none only where no tick from this one on is the partition's
abbrev pub NextIsFirst : Type 0
NextIsFirst =
    (plan : WindowPlan) (p tick : ℕ) → IsPlan plan
    → MatchOption ((own_ticks plan p).next_of tick) ((n : ℕ) → tick ≤ n → ¬ IsOwn plan p n) (IsFirstOwn plan p tick)

-- only one tick is the first own one not before the tick
abbrev pub NextIsOne : Type 0
NextIsOne =
    (plan : WindowPlan) (p tick n : ℕ) → IsPlan plan → IsFirstOwn plan p tick n → (own_ticks plan p).next_of tick ≡ Some n

-- the next own tick comes less than a frame after the tick, or after the beginning of the last stage
abbrev pub NextIsNear : Type 0
NextIsNear =
    (plan : WindowPlan) (p tick last n : ℕ) → IsPlan plan → All (λ stage. stage.from ≤ last) plan.stages
    → (own_ticks plan p).next_of tick ≡ Some n → n < max tick (last * plan.frame) + plan.frame

-- the end is that of the partition's window that holds the tick, and there is none only where the tick is not its own
abbrev pub EndIsOfWindow : Type 0
EndIsOfWindow =
    (plan : WindowPlan) (p tick : ℕ) → MatchOption ((own_ticks plan p).end_at tick) (¬ IsOwn plan p tick) (IsOwnUntil plan p tick)

-- only one end is that of the partition's window that holds the tick
abbrev pub EndIsOne : Type 0
EndIsOne =
    (plan : WindowPlan) (p tick end : ℕ) → IsPlan plan → IsOwnUntil plan p tick end → (own_ticks plan p).end_at tick ≡ Some end

-- the end comes after the tick, at most a frame later, and from the tick up to it each tick is the partition's, in the same window
abbrev pub WindowIsWhole : Type 0
WindowIsWhole =
    (plan : WindowPlan) (p tick end : ℕ) → IsPlan plan → (own_ticks plan p).end_at tick ≡ Some end → (tick < end) × (end ≤ tick + plan.frame) × ((k : ℕ) → tick ≤ k → k < end → (own_ticks plan p).end_at k ≡ Some end)

-- no tick is two partitions'
abbrev pub OwnTicksAreApart : Type 0
OwnTicksAreApart =
    (plan : WindowPlan) (p q tick : ℕ) → IsPlan plan → p ≢ q → IsOwn plan p tick → ¬ IsOwn plan q tick
