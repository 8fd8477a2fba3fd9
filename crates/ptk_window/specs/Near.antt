-- Where a partition's next window stands.
use Rattle.std.specs.Prelude.{◌≡◌, ℕ, ◌+◌, ◌<◌, ◌≤◌, List, length, slice_index_or, max}
use Rattle.ptk_words_model.specs.declared.window.Window.{Window}
use Rattle.ptk_words_model.specs.Windows.{IsOwn}
use Rattle.ptk_window.specs.declared.near.Near.{Near}
use Rattle.ptk_window.specs.declared.near.Turn.{Turn}
use Rattle.ptk_window.specs.declared.table.Table.{Table}
use Rattle.ptk_window.specs.Stages.{HasTick, groups_at, plan_of}

-- near is at the partition's next window from the tick on: the first one, frame after frame, that ends after the tick (own)
pub record IsNextFrom (frame : ℕ) (tables : List Table) (p tick : ℕ) (near : Near) : Type 0 where
  pub of_frame : near.frame ≡ frame
  pub has : HasTick frame tables near.stage near.frame_start
  pub room : near.frame_start ≤ 288230376151711744
  -- the window is the partition's and ends after the tick
  pub window : Window
  pub within : near.place < length (groups_at tables near.stage)
  pub is : slice_index_or (groups_at tables near.stage) near.place window ≡ window
  pub own : window.partition ≡ p
  pub after : tick < near.frame_start + (window.start + window.length)
  -- the partition's windows before it in the frame ended by the tick, and no earlier frame has a tick of the partition's from the tick on
  pub before : (k : ℕ) (d : Window) → k < near.place → (slice_index_or (groups_at tables near.stage) k d).partition ≡ p
      → near.frame_start + ((slice_index_or (groups_at tables near.stage) k d).start + (slice_index_or (groups_at tables near.stage) k d).length) ≤ tick
  pub earlier : (k : ℕ) → tick ≤ k → k < near.frame_start → ¬ IsOwn (plan_of frame tables) p k

-- the window that near is at, d where there is none, ends at the tick (own)
abbrev pub IsEndAt : List Table → Near → Window → ℕ → Type 0
IsEndAt tables near d tick = near.frame_start + ((slice_index_or (groups_at tables near.stage) near.place d).start + (slice_index_or (groups_at tables near.stage) near.place d).length) ≡ tick

-- the turn has the ticks of the window that near is at, from the tick on
pub record IsTurnAt (tables : List Table) (tick : ℕ) (near : Near) (turn : Turn) : Type 0 where
  pub start : (d : Window) → turn.start ≡ max tick (near.frame_start + (slice_index_or (groups_at tables near.stage) near.place d).start)
  pub end : (d : Window) → turn.end ≡ near.frame_start + ((slice_index_or (groups_at tables near.stage) near.place d).start + (slice_index_or (groups_at tables near.stage) near.place d).length)
