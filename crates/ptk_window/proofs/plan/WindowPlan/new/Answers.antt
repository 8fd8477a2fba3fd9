use Rattle.std.proofs.Common.{List, map, sym, subst}
use Rattle.ptk_words_model.specs.Windows.{Stage, IsPlan}
use Rattle.ptk_words_model.proofs.FaultLaws.{accepted, accepted_windows}
use Rattle.ptk_window.proofs.plan.WindowPlan.new.Goals as goal

pub tables_of-requires-clause-fine : goal.tables_of-requires-clause-fine
tables_of-requires-clause-fine c = accepted_windows c.args.frame c.args.parts (λ stage. record { from = stage.0; windows = stage.1.now }) c.args.stages.now (sym c.in_default.ensures)

pub invariant_of-result : goal.invariant_of-result
invariant_of-result c =
    record {
      plan = subst (λ (stages : List Stage). IsPlan (record { frame = c.args.frame; stages = stages })) (sym c.in_ok-tables.ensures.stages)
          (accepted c.args.frame c.args.parts (map (λ stage. record { from = stage.0; windows = stage.1.now }) c.args.stages.now) (sym c.in_default.ensures)).0;
      frames = c.in_ok-tables.ensures.frames;
      ordered = c.in_ok-tables.ensures.ordered;
    }
