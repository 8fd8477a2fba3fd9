use Rattle.std.proofs.Common.{◌≡◌, ◌≤◌, [], drop}
use Rattle.ptk_words.specs.declared.TheConstants.{LAST_TICK}
use Rattle.toml.specs.View.{items_view}
use Rattle.ptk_config.specs.Reading.{each_after}
use Rattle.ptk_config.specs.Inputs.{input_in, last_tick, byte_count, arrivals_of}
use Rattle.ptk_config.proofs.Inputs.{IsInOrder}
use Rattle.ptk_config.proofs.input.read_inputs.Given as goal

abbrev pub invariant-loop-value : goal.invariant-loop-value
invariant-loop-value l = record {
  walk : each_after input_in l.inputs.items (items_view (drop l.value-index l.values)) ≡ each_after input_in [] (items_view l.values);
  last : l.last ≡ last_tick l.inputs.items;
  count : l.count ≡ byte_count l.inputs.items;
  room : l.count ≤ 65536;
  in_time : l.last ≤ LAST_TICK;
  order : IsInOrder l.last (arrivals_of l.inputs.items);
}
