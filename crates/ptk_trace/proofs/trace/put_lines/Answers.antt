use Rattle.std.proofs.Common.{rules}
use Rattle.ptk_trace.proofs.Lines.{appends_line, steps_more}
use Rattle.ptk_trace.proofs.trace.put_lines.Goals as goal

pub loop-entry-preserved : goal.loop-entry-preserved
loop-entry-preserved g c =
    record {
      lines = appends_line (g.W.Write.contents c.args.out.now) (g.W.Write.contents c.loop-entry.out) (g.W.Write.contents c.put_line.new.out)
          c.args.entries.now c.loop-entry.entry-index _ c.loop-entry-test.true (search rules) c.loop-entry.invariant.lines c.in_ok-put_line.ensures.line;
      steps = steps_more c.args.entries.now c.loop-entry.entry-index _ c.loop-entry-test.true (search rules) c.loop-entry.invariant.steps c.put_line.ensures.step;
    }
