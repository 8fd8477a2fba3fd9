use Rattle.std.proofs.Common.{length}
use Rattle.ptk_gate_threads.proofs.ArrivalLoop.{AreArriving}
use Rattle.ptk_gate_threads.proofs.arrivals.arrive_due.Given as goal

abbrev pub invariant-due : goal.invariant-due
invariant-due l = AreArriving l.tick l.initial.pools l.pools

abbrev pub decreases-due : goal.decreases-due
decreases-due l = length l.pools.here.console.coming
