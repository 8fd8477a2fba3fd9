use Rattle.std.proofs.Common.{◌≡◌, [], drop, vec_len}
use Rattle.toml.specs.View.{items_view}
use Rattle.ptk_config.specs.Reading.{integer, each_after}
use Rattle.ptk_config.proofs.input.read_bytes.Given as goal

abbrev pub invariant-loop-value : goal.invariant-loop-value
invariant-loop-value l = record {
  walk : each_after (λ _. integer 0 255) l.bytes.items (items_view (drop l.value-index l.values)) ≡ each_after (λ _. integer 0 255) [] (items_view l.values);
  count : vec_len l.bytes ≡ l.value-index;
}
