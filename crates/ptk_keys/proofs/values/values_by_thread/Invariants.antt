use Rattle.std.proofs.Common.{◌≡◌, replicate}
use Rattle.ptk_words_model.specs.Keys.{no_values}
use Rattle.ptk_keys.proofs.values.values_by_thread.Given as goal

abbrev pub invariant-loop-i : goal.invariant-loop-i
invariant-loop-i l = l.by_thread.items ≡ replicate l.i (no_values l.keys)
