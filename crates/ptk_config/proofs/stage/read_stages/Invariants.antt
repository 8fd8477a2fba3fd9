use Rattle.std.proofs.Common.{◌≡◌, ◌≤◌, [], drop, vec_len}
use Rattle.toml.specs.View.{items_view}
use Rattle.ptk_config.specs.Reading.{each_after}
use Rattle.ptk_config.specs.Windows.{stage_in, last_from}
use Rattle.ptk_config.proofs.Stages.{AreInOrder}
use Rattle.ptk_config.proofs.stage.read_stages.Given as goal

abbrev pub invariant-loop-value : goal.invariant-loop-value
invariant-loop-value l = record {
  walk : each_after (stage_in l.sections) l.stages.items (items_view (drop l.value-index l.values)) ≡ each_after (stage_in l.sections) [] (items_view l.values);
  last : l.last ≡ last_from l.stages.items;
  to : l.last ≤ 68719476736;
  count : vec_len l.stages ≡ l.value-index;
  order : AreInOrder l.last l.stages.items;
}
