use Rattle.std.proofs.Common.{◌-◌}
use Rattle.ptk_timeline.proofs.signs.Signs.see_windows.Given as goal

abbrev pub decreases-loop-window : goal.decreases-loop-window
decreases-loop-window l = l.stop - l.tick
