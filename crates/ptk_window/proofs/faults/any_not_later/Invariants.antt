use Rattle.std.proofs.Common.{◌≡◌, drop, leb}
use Rattle.ptk_words_model.specs.WindowFaults.{some_pair}
use Rattle.ptk_window.proofs.faults.any_not_later.Given as goal

abbrev pub invariant-loop-index : goal.invariant-loop-index
invariant-loop-index l = some_pair (λ one other. leb other.0 one.0) (drop l.index l.stages) ≡ some_pair (λ one other. leb other.0 one.0) l.stages
