use Rattle.std.proofs.Common.{◌-◌}
use Rattle.ptk_tracepoints.proofs.part.PartState.count_mutexes.Given as goal

abbrev pub decreases-loop-self : goal.decreases-loop-self
decreases-loop-self l = 64 - l.self.used
