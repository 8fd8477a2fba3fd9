-- A partition's way through its windows.
use Rattle.std.specs.Prelude.{◌≡◌, ℕ, ◌+◌, ◌*◌, ◌<◌, ◌≤◌, List, length, slice_index_or, Option, option_map, MatchOption}
use Rattle.ptk_words_model.specs.declared.window.Window.{Window}
use Rattle.ptk_words_model.specs.Windows.{WindowPlan}
use Rattle.ptk_window.specs.declared.near.Near.{Near}
use Rattle.ptk_window.specs.declared.table.Table.{Table}
use Rattle.ptk_window.specs.declared.walk.Stay.{Stay}
use Rattle.ptk_window.specs.Order.{IsFirst}
use Rattle.ptk_window.specs.Stages.{ArePlanned, HasTick, from_at, groups_at, plan_of}

-- the way of a partition through the windows of a plan: it is at the window that ends at this tick, where that is known (own)
pub record Way : Type 0 where
  pub plan : WindowPlan
  pub partition : ℕ
  pub end : Option ℕ

-- no window
abbrev pub no_window : Window
no_window = record { start = 0; length = 0; partition = 0 }

-- the first tick after the window that near is at
abbrev pub end_here : List Table → Near → ℕ
end_here tables near =
    near.frame_start + ((slice_index_or (groups_at tables near.stage) near.place no_window).start + (slice_index_or (groups_at tables near.stage) near.place no_window).length)

-- the way as it is kept
abbrev pub way_of : ℕ → List Table → ℕ → Near → Option Stay → Way
way_of frame tables p near stay =
    record {
      plan = plan_of frame tables;
      partition = p;
      end = option_map (λ s. end_here tables near) stay;
    }

-- near is at a window of the partition, and what is kept of that one's stage is so: where the partition's first window stands, and the tick at which the stage ends (own)
pub record IsHere (frame : ℕ) (tables : List Table) (p : ℕ) (near : Near) (stay : Stay) : Type 0 where
  pub of_frame : near.frame ≡ frame
  pub has : HasTick frame tables near.stage near.frame_start
  pub room : near.frame_start ≤ 288230376151711744
  pub within : near.place < length (groups_at tables near.stage)
  pub own : (d : Window) → (slice_index_or (groups_at tables near.stage) near.place d).partition ≡ p
  pub first : IsFirst (groups_at tables near.stage) p stay.first
  pub ends : near.stage + 1 < length tables → stay.end ≡ from_at tables (near.stage + 1) * frame

-- the tables are a plan, and near is where it is known to be
abbrev pub IsOnWay : ℕ → List Table → ℕ → Near → Option Stay → Type 0
IsOnWay frame tables p near stay = ArePlanned frame tables × MatchOption stay (Unit {0}) (IsHere frame tables p near)
