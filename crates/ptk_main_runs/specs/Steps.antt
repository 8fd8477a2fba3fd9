-- The end of a step.
use Rattle.std.specs.Prelude.{ℕ, ◌+◌, min, max, if◌then◌else◌, Option, Some, None}
use Rattle.ptk_words_model.specs.State.{State}
use Rattle.ptk_system.specs.Told.{is_halted, status_in}

-- the next decision's tick, or the window's end where there is none: behind this tick, and not behind that end
abbrev pub next_within : ℕ → ℕ → Option ℕ → ℕ
next_within tick end None = end
next_within tick end (Some next) = min (max next (tick + 1)) end

-- the tick behind a step that begins at this tick, in a window that ends at that one, and leaves this state: the next decision's, within the window; of a step with which the partition halts the next tick (own)
abbrev pub step_end : ℕ → ℕ → State → ℕ
step_end tick end after = if is_halted (status_in after.part) then tick + 1 else next_within tick end after.account.next
