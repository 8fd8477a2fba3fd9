use Rattle.std.proofs.Common.{◌≡◌, ◌∙◌, All, ap, subst}
use Rattle.ptk_system.specs.KeptSteps.{IsStep, KeptSteps}
use Rattle.ptk_system.specs.World.{World, state_of, world_at}
use Rattle.ptk_main_runs.proofs.runs.traced.Goals as goal

pub returns-in-Ok-clause-steps : goal.returns-in-Ok-clause-steps
returns-in-Ok-clause-steps g c =
    let kept : c.trace.result.now.entries ≡ (state_of (world_at c.args.config.now c.args.files.now c.args.ticks) c.args.p).account.trace =
    ap (λ (k : KeptSteps). k.entries) c.trace.ensures ∙ ap (λ (w : World). (state_of w c.args.p).account.trace) c.in_ok-system.ensures.reached in
    subst (All IsStep) kept c.in-Ok.ensures.steps
