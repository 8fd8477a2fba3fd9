-- What the search for the first difference knows on its way.
use Rattle.std.specs.Prelude.{◌≡◌, ℕ, ◌+◌, ◌<◌, ◌≤◌, Option, Some, None, MatchOption}
use Rattle.ptk_words_model.specs.Windows.{WindowPlan, own_ticks}
use Rattle.ptk_window.specs.declared.near.Turn.{Turn}
use Rattle.ptk_window.specs.Turn.{IsTurn}
use Rattle.ptk_impact.specs.declared.comparison.Comparison.{Comparison}
use Rattle.ptk_impact.specs.declared.comparison.Comparison.TheVariants.{Agree as Agreed, AgreeUntil, Differ}
use Rattle.ptk_impact.specs.declared.difference.Difference.{Difference}
use Rattle.ptk_impact.specs.Agreement.{Agree, IsBegin, IsDifference}

-- the partition's next turn from the tick on, None if it has no tick from there on (own)
abbrev pub IsNextTurn : WindowPlan → ℕ → ℕ → Option Turn → Type 0
IsNextTurn plan p tick turn = MatchOption turn ((own_ticks plan p).next_of tick ≡ None) (IsTurn plan p tick)

-- the difference's tick is the least from this one on at which the two partitions do not agree (own)
pub record IsDifferenceFrom (a : WindowPlan) (p : ℕ) (b : WindowPlan) (q from : ℕ) (difference : Difference) : Type 0 where
  pub is : IsDifference a p b q difference
  pub not_before : from ≤ difference.tick
  pub least : (k : ℕ) → from ≤ k → k < difference.tick → Agree a p b q k

-- what the comparison says of the ticks from this one on is so (own)
abbrev pub IsTrueFrom : WindowPlan → ℕ → WindowPlan → ℕ → ℕ → Comparison → Type 0
IsTrueFrom a p b q tick Agreed = (k : ℕ) → tick ≤ k → Agree a p b q k
IsTrueFrom a p b q tick (AgreeUntil end) = (tick < end) × ((k : ℕ) → tick ≤ k → k < end → Agree a p b q k)
IsTrueFrom a p b q tick (Differ difference) = IsDifferenceFrom a p b q tick difference

-- the tick comes before the difference, or there is none (own)
abbrev pub IsBefore : ℕ → Option Difference → Type 0
IsBefore k None = Unit {0}
IsBefore k (Some difference) = k < difference.tick

-- before the difference they agree for one frame of each plan from each tick at which a stage of the first plan begins (own)
abbrev pub AgreeNearBegins : WindowPlan → WindowPlan → ℕ → WindowPlan → ℕ → Option Difference → Type 0
AgreeNearBegins staged a p b q found =
    (begin k : ℕ) → IsBegin staged begin → begin ≤ k → k < begin + (a.frame + b.frame) → IsBefore k found → Agree a p b q k
