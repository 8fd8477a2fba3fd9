use Rattle.std.proofs.Common.{sym, subst}
use Rattle.ptk_ready.specs.Queues.{AreUnused}
use Rattle.ptk_ready.proofs.Unused.{unused_built}
use Rattle.ptk_unit_tests.proofs.ready_lines.plain_lines.Goals as goal

pub lines_after-requires-clause-sound : goal.lines_after-requires-clause-sound
lines_after-requires-clause-sound g c = subst AreUnused (sym c.in_ok-threads.ensures.0) (unused_built c.args.counts.now)
