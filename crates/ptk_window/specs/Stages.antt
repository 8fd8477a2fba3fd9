-- The plan that the tables of its stages are, and which table has a tick's frame.
use Rattle.std.specs.Prelude.{◌≡◌, ℕ, ◌+◌, ◌*◌, ◌<◌, ◌≤◌, List, [], map, length, slice_index_or, All}
use Rattle.ptk_words_model.specs.declared.window.Window.{Window}
use Rattle.ptk_words_model.specs.Windows.{Stage, WindowPlan, IsPlan}
use Rattle.ptk_window.specs.Order.{IsOrdered}
use Rattle.ptk_window.specs.declared.table.Table.{Table}

-- what a table's windows were given as
abbrev pub stage_of : Table → Stage
stage_of table = record { from = table.from; windows = table.windows.items }

-- the plan of these tables in this frame
abbrev pub plan_of : ℕ → List Table → WindowPlan
plan_of frame tables = record { frame = frame; stages = map stage_of tables }

-- the tables are a plan of this frame, and each keeps its windows in their orders
pub record ArePlanned (frame : ℕ) (tables : List Table) : Type 0 where
  pub plan : IsPlan (plan_of frame tables)
  pub frames : All (λ table. table.frame ≡ frame) tables
  pub ordered : All (λ table. IsOrdered frame table.windows.items table.by_start.items table.by_partition.items) tables

-- the number of the frame from which on the i-th table's windows hold
abbrev pub from_at : List Table → ℕ → ℕ
from_at tables i = slice_index_or (map (λ table. table.from) tables) i 0

-- the i-th table's windows, by partition
abbrev pub groups_at : List Table → ℕ → List Window
groups_at tables i = slice_index_or (map (λ table. table.by_partition.items) tables) i []

-- the i-th table has the frame that holds the tick: its stage has begun, and the next one has not
pub record HasTick (frame : ℕ) (tables : List Table) (i tick : ℕ) : Type 0 where
  pub within : i < length tables
  pub begun : from_at tables i * frame ≤ tick
  pub next : i + 1 < length tables → tick < from_at tables (i + 1) * frame
