use Rattle.std.proofs.Common.{◌+◌, ◌-◌, ◌≤◌}
use Rattle.ptk_statistics_figures.proofs.own.OwnWindows.by_windows.Given as goal

abbrev pub invariant-loop-tick : goal.invariant-loop-tick
invariant-loop-tick l = (l.tick ≤ l.to) × (l.from + l.own ≤ l.tick)

abbrev pub decreases-loop-tick : goal.decreases-loop-tick
decreases-loop-tick l = l.to - l.tick
