use Rattle.std.proofs.Common.{◌≡◌, ◌-◌, length}
use Rattle.ptk_tracepoints.specs.Position.{GoesOn}
use Rattle.ptk_tracepoints.proofs.tracer.Tracer.run_by_windows.Given as goal

abbrev pub invariant-loop-tick : goal.invariant-loop-tick
invariant-loop-tick g l =
    GoesOn l.fn.system l.to l.system × (l.self.from ≡ l.fn.self.from) × (length l.self.parts.items ≡ length l.fn.self.parts.items)

abbrev pub decreases-loop-tick : goal.decreases-loop-tick
decreases-loop-tick g l = l.to - l.tick
