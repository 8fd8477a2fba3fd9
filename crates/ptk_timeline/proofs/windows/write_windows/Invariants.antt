use Rattle.std.proofs.Common.{◌-◌}
use Rattle.ptk_timeline.proofs.windows.write_windows.Given as goal

abbrev pub decreases-loop-window : goal.decreases-loop-window
decreases-loop-window g l = l.stop - l.tick
