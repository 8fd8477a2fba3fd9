-- Where two partitions' windows agree, and the ticks that decide it for all ticks.
use Rattle.std.specs.Prelude.{◌≡◌, ℕ, ◌+◌, ◌*◌, ◌<◌, ◌≤◌, Any}
use Rattle.ptk_words_model.specs.Windows.{WindowPlan, IsPlan, own_ticks}
use Rattle.ptk_impact.specs.declared.difference.Difference.{Difference}

-- at the tick both partitions have a window with the same end, or neither has one (own)
abbrev pub Agree : WindowPlan → ℕ → WindowPlan → ℕ → ℕ → Type 0
Agree a p b q tick = (own_ticks a p).end_at tick ≡ (own_ticks b q).end_at tick

-- the two partitions do not agree at the difference's tick, and its ends are those of their windows there (own)
pub record IsDifference (a : WindowPlan) (p : ℕ) (b : WindowPlan) (q : ℕ) (difference : Difference) : Type 0 where
  pub differ : ¬ Agree a p b q difference.tick
  pub end : difference.end ≡ (own_ticks a p).end_at difference.tick
  pub other_end : difference.other_end ≡ (own_ticks b q).end_at difference.tick

-- the difference's tick is the least at which the two partitions do not agree (own)
pub record IsFirstDifference (a : WindowPlan) (p : ℕ) (b : WindowPlan) (q : ℕ) (difference : Difference) : Type 0 where
  pub is : IsDifference a p b q difference
  pub least : (k : ℕ) → k < difference.tick → Agree a p b q k

-- a stage of the plan begins at the tick (own)
abbrev pub IsBegin : WindowPlan → ℕ → Type 0
IsBegin plan tick = Any (λ stage. stage.from * plan.frame ≡ tick) plan.stages

-- the two partitions agree at each tick below this one that comes less than one frame of each plan after the beginning (own)
abbrev pub AgreeNear : WindowPlan → ℕ → WindowPlan → ℕ → ℕ → ℕ → Type 0
AgreeNear a p b q tick begin = (k : ℕ) → begin ≤ k → k < begin + (a.frame + b.frame) → k < tick → Agree a p b q k

-- partitions that agree so near the beginning of each stage agree at each tick below this one
abbrev pub AgreementSpreads : Type 0
AgreementSpreads =
    (a : WindowPlan) (p : ℕ) (b : WindowPlan) (q tick : ℕ) → IsPlan a → IsPlan b
    → ((begin : ℕ) → IsBegin a begin → AgreeNear a p b q tick begin)
    → ((begin : ℕ) → IsBegin b begin → AgreeNear a p b q tick begin)
    → (k : ℕ) → k < tick → Agree a p b q k
