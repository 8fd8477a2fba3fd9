use Rattle.std.proofs.Common.{◌≡◌, All, map, take}
use Rattle.ptk_window.specs.Order.{IsOrdered}
use Rattle.ptk_window.specs.Stages.{stage_of}
use Rattle.ptk_window.proofs.plan.tables_of.Given as goal

abbrev pub invariant-loop-stage : goal.invariant-loop-stage
invariant-loop-stage l = record {
  stages : map stage_of l.tables.items ≡ map (λ stage. record { from = stage.0; windows = stage.1.now }) (take l.stage-index l.stages);
  frames : All (λ table. table.frame ≡ l.frame) l.tables.items;
  ordered : All (λ table. IsOrdered l.frame table.windows.items table.by_start.items table.by_partition.items) l.tables.items;
}
