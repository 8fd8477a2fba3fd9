use Rattle.std.proofs.Common.{◌+◌, ◌≤◌}
use Rattle.ptk_statistics_figures.proofs.own.OwnWindows.look_up.Given as goal

abbrev pub invariant-loop-stage : goal.invariant-loop-stage
invariant-loop-stage l = (l.tick ≤ l.to) × (l.from + l.own ≤ l.tick)
