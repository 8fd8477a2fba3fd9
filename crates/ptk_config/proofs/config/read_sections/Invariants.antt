use Rattle.std.proofs.Common.{◌≡◌, [], drop, vec_len}
use Rattle.toml.specs.View.{items_view}
use Rattle.ptk_config.specs.Reading.{each_after}
use Rattle.ptk_config.specs.Sections.{AreInRange, section}
use Rattle.ptk_config.proofs.config.read_sections.Given as goal

abbrev pub invariant-loop-value : goal.invariant-loop-value
invariant-loop-value l = record {
  walk : each_after (λ _. section) l.sections.items (items_view (drop l.value-index l.values)) ≡ each_after (λ _. section) [] (items_view l.values);
  count : vec_len l.sections ≡ l.value-index;
  ranges : AreInRange l.sections.items;
}
