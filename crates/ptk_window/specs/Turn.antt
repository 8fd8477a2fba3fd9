-- A partition's turn in a plan.
use Rattle.std.specs.Prelude.{◌≡◌, ℕ, ◌+◌, ◌*◌, ◌<◌, ◌≤◌, max, Some, All}
use Rattle.ptk_words_model.specs.Windows.{WindowPlan, own_ticks}
use Rattle.ptk_window.specs.declared.near.Turn.{Turn}

-- the turn begins at the partition's first own tick from the tick on and ends with the window that holds that (own)
abbrev pub IsTurn : WindowPlan → ℕ → ℕ → Turn → Type 0
IsTurn plan p tick turn =
    ((own_ticks plan p).next_of tick ≡ Some turn.start) × ((own_ticks plan p).end_at turn.start ≡ Some turn.end)

-- n comes less than a frame after the tick, or after the beginning of the last stage (own)
abbrev pub IsSoon : WindowPlan → ℕ → ℕ → Type 0
IsSoon plan tick n = (tick ≤ n) × ((last : ℕ) → All (λ stage. stage.from ≤ last) plan.stages → n < max tick (last * plan.frame) + plan.frame)

-- it begins so soon, and lasts a frame at most (own)
abbrev pub IsShort : WindowPlan → ℕ → Turn → Type 0
IsShort plan tick turn = IsSoon plan tick turn.start × (turn.start < turn.end) × (turn.end ≤ turn.start + plan.frame)
