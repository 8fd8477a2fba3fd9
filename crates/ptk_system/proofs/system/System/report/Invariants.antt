use Rattle.std.specs.Io.KnownBytes.{Appends}
use Rattle.ptk_system.specs.Shown.{reports_to}
use Rattle.ptk_system.proofs.system.System.report.Given as goal

abbrev pub invariant-loop-i : goal.invariant-loop-i
invariant-loop-i g l = Appends (g.W.Write.contents l.initial.out) (g.W.Write.contents l.out) (reports_to l.self l.i)
