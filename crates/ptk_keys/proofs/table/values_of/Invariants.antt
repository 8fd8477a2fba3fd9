use Rattle.std.proofs.Common.{◌≡◌, map, take, replicate, length}
use Rattle.ptk_words_model.specs.Keys.{no_values}
use Rattle.ptk_keys.proofs.table.values_of.Given as goal

abbrev pub invariant-loop-l : goal.invariant-loop-l
invariant-loop-l m = record {
  made : m.values ≡ map (λ l. replicate l.threads (no_values l.keys)) (take m.l-index m.limits);
  parts : length m.values ≡ m.l-index;
}
