use Rattle.std.proofs.Common.{◌<◌, length}
use Rattle.ptk_unit_tests.proofs.ready_lines.set_all.Given as goal

abbrev pub invariant-loop-n : goal.invariant-loop-n
invariant-loop-n g l = record {
  partition : (l.p < length (g.L.Line.entries l.line l.threads)) × (l.p < length l.threads.threads);
  sound : g.L.Line.is_sound l.line l.threads;
}
