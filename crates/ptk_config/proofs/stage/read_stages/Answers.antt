use Rattle.std.proofs.Common.{◌≡◌, ◌+◌, ◌∙◌, sym, ap, arith, Ok}
use Rattle.std.proofs.lemmas.Grind.{common_steps}
use Rattle.toml.specs.View.{view}
use Rattle.ptk_words_model.specs.Windows.{Stage}
use Rattle.ptk_config.specs.Windows.{stage, stage_in}
use Rattle.ptk_config.proofs.Walks.{each_after-more, each_after-end}
use Rattle.ptk_config.proofs.Stages.{last_from-push, AreInOrder-more}
use Rattle.ptk_config.proofs.stage.read_stages.Goals as goal

pub returns-in_err-stage-clause-value : goal.returns-in_err-stage-clause-value
returns-in_err-stage-clause-value c = grind (arith, common_steps)

pub returns-clause-value : goal.returns-clause-value
returns-clause-value c =
    each_after-end (stage_in c.args.sections.now) c.loop-value.stages.items c.args.values.now c.loop-value.value-index _ c.loop-value-test.false c.loop-value.invariant.walk

pub loop-value-preserved : goal.loop-value-preserved
loop-value-preserved c =
    let from : c.stage.inside.from ≡ c.in_ok-stage.stage.from = ap (λ (s : Stage). s.from) c.stage.view_is in
    let read : stage c.args.sections.now (c.loop-value.last + 1) (view c.value-item.result) ≡ Ok c.in_ok-stage.stage = c.in_ok-stage.ensures.value in
    record {
      walk = rw c.in_ok-push.ensures.items
          (each_after-more (stage_in c.args.sections.now) c.loop-value.stages.items c.in_ok-stage.stage c.args.values.now c.loop-value.value-index c.value-item.result _
          c.loop-value-test.true c.value-item.is (rw c.loop-value.invariant.last at read) c.loop-value.invariant.walk);
      last = rw c.in_ok-push.ensures.items (from ∙ sym (last_from-push c.loop-value.stages.items c.in_ok-stage.stage));
      to = omega (arith, from, c.in_ok-stage.ensures.to);
      count = omega (arith, c.in_ok-push.ensures.len, c.loop-value.invariant.count);
      order =
          AreInOrder-more c.loop-value.last c.stage.inside.from c.loop-value.stages.items c.push.new.self.items c.in_ok-stage.stage
          c.loop-value.invariant.order (omega (arith, from, c.in_ok-stage.ensures.from)) from c.in_ok-push.ensures.items;
    }
