use Rattle.std.proofs.Common.{◌≡◌, ◌∷◌, take}
use Rattle.ptk_config.proofs.Stages.{stages_of}
use Rattle.ptk_config.proofs.config.stages_given.Given as goal

abbrev pub invariant-loop-stage : goal.invariant-loop-stage
invariant-loop-stage l = stages_of l.stages.items ≡ record { from = 0; windows = l.windows } ∷ take l.stage-index l.later
