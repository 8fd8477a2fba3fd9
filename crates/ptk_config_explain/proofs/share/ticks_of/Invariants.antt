use Rattle.std.proofs.Common.{◌≤◌, ◌*◌}
use Rattle.ptk_config_explain.proofs.share.ticks_of.Given as goal

abbrev pub invariant-loop-window : goal.invariant-loop-window
invariant-loop-window l = l.ticks ≤ 4294967295 * l.window-index
