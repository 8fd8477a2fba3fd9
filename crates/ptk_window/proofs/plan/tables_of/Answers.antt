use Rattle.std.proofs.Common.{◌≡◌, [], ◌∷◌, ◌++◌, All, map, sym, ap, subst, ◌∙◌}
use Rattle.std.proofs.lemmas.List.Elements.{All-push}
use Rattle.ptk_window.specs.declared.table.Table.{Table}
use Rattle.ptk_window.specs.Order.{IsOrdered}
use Rattle.ptk_window.specs.Stages.{stage_of}
use Rattle.ptk_window.proofs.StageLaws.{one_more}
use Rattle.ptk_window.proofs.plan.tables_of.Goals as goal

pub loop-stage-preserved : goal.loop-stage-preserved
loop-stage-preserved c =
    let t = c.in_ok-new.field-0 in
    let pushed : c.push.new.self.items ≡ c.loop-stage.tables.items ++ t ∷ [] = c.in_ok-push.ensures.items in
    record {
      stages = ap (map stage_of) pushed
          ∙ one_more c.args.stages.now (λ stage. record { from = stage.0; windows = stage.1.now }) c.loop-stage.tables.items t c.loop-stage.stage-index c.stage-item.result c.loop-stage-test.true c.loop-stage.invariant.stages
          (c.in_ok-new.ensures.from ∙ ap (λ stage. stage.0) c.stage-item.is) (c.in_ok-new.ensures.windows ∙ ap (λ stage. stage.1.now) c.stage-item.is);
      frames = subst (All (λ table. table.frame ≡ c.args.frame)) (sym pushed) (All-push (λ (table : Table). table.frame ≡ c.args.frame) c.loop-stage.tables.items t c.loop-stage.invariant.frames c.in_ok-new.ensures.frame);
      ordered = subst (All (λ table. IsOrdered c.args.frame table.windows.items table.by_start.items table.by_partition.items)) (sym pushed)
          (All-push (λ (table : Table). IsOrdered c.args.frame table.windows.items table.by_start.items table.by_partition.items) c.loop-stage.tables.items t c.loop-stage.invariant.ordered c.in_ok-new.ensures.ordered);
    }
