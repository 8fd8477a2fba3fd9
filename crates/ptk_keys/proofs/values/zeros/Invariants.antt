use Rattle.std.proofs.Common.{◌≡◌}
use Rattle.ptk_words_model.specs.Keys.{no_values}
use Rattle.ptk_keys.proofs.values.zeros.Given as goal

abbrev pub invariant-loop-i : goal.invariant-loop-i
invariant-loop-i l = l.zeros.items ≡ no_values l.i
