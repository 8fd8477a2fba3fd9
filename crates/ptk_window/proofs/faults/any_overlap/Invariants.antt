use Rattle.std.proofs.Common.{◌≡◌, drop}
use Rattle.ptk_words_model.specs.WindowFaults.{some_pair, are_overlapping}
use Rattle.ptk_window.proofs.faults.any_overlap.Given as goal

abbrev pub invariant-loop-index : goal.invariant-loop-index
invariant-loop-index l = some_pair are_overlapping (drop l.index l.windows) ≡ some_pair are_overlapping l.windows
