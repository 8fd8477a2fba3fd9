use Rattle.std.proofs.Common.{◌-◌}
use Rattle.ptk_tracepoints.specs.Position.{GoesOn}
use Rattle.ptk_tracepoints.proofs.part.PartState.run_window.Given as goal

abbrev pub invariant-loop-tick : goal.invariant-loop-tick
invariant-loop-tick g l = GoesOn l.fn.system l.window.stop l.system

abbrev pub decreases-loop-tick : goal.decreases-loop-tick
decreases-loop-tick g l = l.window.stop - l.tick
