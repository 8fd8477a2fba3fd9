use Rattle.std.proofs.Common.{◌<◌, length}
use Rattle.ptk_unit_tests.proofs.ready_lines.lines_after.Given as goal

abbrev pub invariant-loop-i : goal.invariant-loop-i
invariant-loop-i g l = record {
  partition : (l.p < length (g.L.Line.entries l.line l.threads)) × (l.p < length l.threads.threads);
  sound : g.L.Line.is_sound l.line l.threads;
}
