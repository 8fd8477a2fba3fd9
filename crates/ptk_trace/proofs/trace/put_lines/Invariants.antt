use Rattle.std.proofs.Common.{All, take}
use Rattle.std.specs.Io.KnownBytes.{Appends}
use Rattle.ptk_words_model.specs.Text.{trace_text}
use Rattle.ptk_trace.specs.KeptSteps.{IsStep}
use Rattle.ptk_trace.proofs.trace.put_lines.Given as goal

abbrev pub invariant-loop-entry : goal.invariant-loop-entry
invariant-loop-entry g l = record {
  lines : Appends (g.W.Write.contents l.initial.out) (g.W.Write.contents l.out) (trace_text (take l.entry-index l.entries));
  steps : All IsStep (take l.entry-index l.entries);
}
