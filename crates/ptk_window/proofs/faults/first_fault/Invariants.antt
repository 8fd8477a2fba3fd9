use Rattle.std.proofs.Common.{◌≡◌, drop}
use Rattle.ptk_words_model.specs.WindowFaults.{first_fault, fault_of}
use Rattle.ptk_window.proofs.faults.first_fault.Given as goal

abbrev pub invariant-loop-window : goal.invariant-loop-window
invariant-loop-window l = first_fault (fault_of l.frame l.parts) (drop l.window-index l.windows) ≡ first_fault (fault_of l.frame l.parts) l.windows
