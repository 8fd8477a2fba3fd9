use Rattle.std.proofs.Common.{◌∙◌, ap}
use Rattle.ptk_main_runs.specs.World.{World}
use Rattle.ptk_main_answers.specs.Refusals.{refused_image}
use Rattle.ptk_main_answers.proofs.Refusals.{refused_image_is_fault}
use Rattle.ptk_main_answers.proofs.check.check_with.Goals as goal

pub returns-in-Some-clause-refused : goal.returns-in-Some-clause-refused
returns-in-Some-clause-refused g c =
    refused_image_is_fault c.args.config.now c.args.files.now c.in-Some.fault c.in-Ok.ensures.missing
    (c.in-Some.ensures ∙ ap (λ (w : World). refused_image c.args.config.now w.files) c.in-Ok.ensures.booted)
