use Rattle.std.proofs.Common.{◌≡◌, drop}
use Rattle.std.specs.Str.{bytes_eq}
use Rattle.ptk_words_model.specs.WindowFaults.{some_pair}
use Rattle.ptk_config.proofs.config.first_doubled.Given as goal

abbrev pub invariant-loop-index : goal.invariant-loop-index
invariant-loop-index l = some_pair (λ s u. bytes_eq s.name u.name) (drop l.index l.sections) ≡ some_pair (λ s u. bytes_eq s.name u.name) l.sections
