use Rattle.std.proofs.Common.{◌≡◌, ◌∷◌, refl, arith}
use Rattle.std.proofs.lemmas.Grind.{common_steps}
use Rattle.ptk_words_model.specs.Windows.{Stage}
use Rattle.ptk_config.proofs.Stages.{stages_of, given-more, given-numbers}
use Rattle.ptk_config.proofs.config.stages_given.Goals as goal

pub loop-stage-preserved : goal.loop-stage-preserved
loop-stage-preserved c =
    rw c.in_ok-push-2.ensures.items
    (given-more c.loop-stage.stages.items c.given.result (record { from = 0; windows = c.args.windows.now }) c.args.later.now c.loop-stage.stage-index c.stage-item.result
    c.loop-stage-test.true c.stage-item.is c.given.ensures.from c.given.ensures.windows c.loop-stage.invariant)

pub returns-clause-numbers : goal.returns-clause-numbers
returns-clause-numbers c =
    let top : Stage = record { from = 0; windows = c.args.windows.now } in
    let value : stages_of c.loop-stage.stages.items ≡ top ∷ c.args.later.now = grind (arith, common_steps) in
    given-numbers c.loop-stage.stages.items top c.args.later.now value refl c.requires
