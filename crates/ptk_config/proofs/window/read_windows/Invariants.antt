use Rattle.std.proofs.Common.{◌≡◌, [], drop}
use Rattle.toml.specs.View.{items_view}
use Rattle.ptk_config.specs.Reading.{each_after}
use Rattle.ptk_config.specs.Windows.{window}
use Rattle.ptk_config.proofs.window.read_windows.Given as goal

abbrev pub invariant-loop-value : goal.invariant-loop-value
invariant-loop-value l = each_after (λ _. window l.sections) l.windows.items (items_view (drop l.value-index l.values)) ≡ each_after (λ _. window l.sections) [] (items_view l.values)
