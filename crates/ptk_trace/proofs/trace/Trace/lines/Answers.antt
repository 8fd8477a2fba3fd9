use Rattle.std.proofs.Common.{All}
use Rattle.std.proofs.lemmas.Result.{on_ok_weaker}
use Rattle.std.specs.Io.KnownBytes.{Appends}
use Rattle.ptk_words_model.specs.Text.{trace_text}
use Rattle.ptk_trace.specs.KeptSteps.{IsStep}
use Rattle.ptk_trace.proofs.Lines.{all_three, appends_three}
use Rattle.ptk_trace.proofs.trace.Trace.lines.Goals as goal

pub returns-clause-lines : goal.returns-clause-lines
returns-clause-lines g c =
    on_ok_weaker {P = Appends (g.W.Write.contents c.put_lines-2.new.out) (g.W.Write.contents c.put_lines-3.new.out) (trace_text c.entries-entries.result.newest.now)}
    {Q = Appends (g.W.Write.contents c.args.out.now) (g.W.Write.contents c.put_lines-3.new.out) (trace_text c.args.self.now.entries)} c.put_lines-3.result
    (λ three. appends_three (g.W.Write.contents c.args.out.now) (g.W.Write.contents c.put_lines.new.out) (g.W.Write.contents c.put_lines-2.new.out) (g.W.Write.contents c.put_lines-3.new.out)
    c.entries-entries.result.oldest.now c.entries-entries.result.later.now c.entries-entries.result.newest.now c.args.self.now.entries c.entries-entries.ensures c.in_ok-put_lines.ensures.lines c.in_ok-put_lines-2.ensures.lines three)
    c.put_lines-3.ensures.lines

pub returns-clause-steps : goal.returns-clause-steps
returns-clause-steps g c =
    on_ok_weaker {P = All IsStep c.entries-entries.result.newest.now} {Q = All IsStep c.args.self.now.entries} c.put_lines-3.result
    (λ three. all_three c.entries-entries.result.oldest.now c.entries-entries.result.later.now c.entries-entries.result.newest.now c.args.self.now.entries c.entries-entries.ensures c.in_ok-put_lines.ensures.steps c.in_ok-put_lines-2.ensures.steps three)
    c.put_lines-3.ensures.steps
