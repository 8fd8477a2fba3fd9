use Rattle.std.proofs.Common.{◌≡◌, drop}
use Rattle.ptk_words_model.specs.WindowFaults.{first_fault, window_fault}
use Rattle.ptk_window.proofs.faults.first_table_fault.Given as goal

abbrev pub invariant-loop-stage : goal.invariant-loop-stage
invariant-loop-stage l = first_fault (λ stage. window_fault l.frame l.parts stage.1.now) (drop l.stage-index l.stages) ≡ first_fault (λ stage. window_fault l.frame l.parts stage.1.now) l.stages
