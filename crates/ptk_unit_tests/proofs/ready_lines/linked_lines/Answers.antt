use Rattle.std.proofs.Common.{◌≡◌, ◌∙◌, [], length, sym, ap, subst, arith}
use Rattle.std.proofs.lemmas.List.{length-map, length-replicate}
use Rattle.ptk_ready.specs.Queues.{AreUnused}
use Rattle.ptk_ready.proofs.Unused.{unused_built}
use Rattle.ptk_ready.specs.Partitions.{lines_by}
use Rattle.ptk_unit_tests.proofs.ready_lines.linked_lines.Goals as goal

pub lines_after-requires-clause-partition : goal.lines_after-requires-clause-partition
lines_after-requires-clause-partition g c =
    let counts = c.args.counts.now in
    let queues = c.in_ok-threads.threads.queues in
    let built = c.in_ok-threads.ensures.0 in
    let unused : AreUnused queues = subst AreUnused (sym built) (unused_built counts) in
    let long : length (lines_by c.in_ok-line.line queues) ≡ length counts =
    ap length (c.in_ok-line.ensures.empty c.in_ok-threads.threads (ap length built ∙ length-map counts _) unused) ∙ length-replicate (length counts) [] in
    (omega (arith, long, c.new.ensures, c.requires.partitions.0), omega (arith, c.new.ensures, c.in_ok-threads.ensures.1, c.requires.partitions.0))

pub lines_after-requires-clause-sound : goal.lines_after-requires-clause-sound
lines_after-requires-clause-sound g c =
    let counts = c.args.counts.now in
    let built = c.in_ok-threads.ensures.0 in
    let unused : AreUnused c.in_ok-threads.threads.queues = subst AreUnused (sym built) (unused_built counts) in
    c.in_ok-line.ensures.sound c.in_ok-threads.threads (ap length built ∙ length-map counts _) unused
