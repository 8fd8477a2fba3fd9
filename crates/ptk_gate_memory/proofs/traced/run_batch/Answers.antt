use Rattle.std.proofs.Common.{List, ap, ◌∙◌}
use Rattle.ptk_words.specs.declared.sections.Entry.{Entry}
use Rattle.ptk_trace.specs.KeptSteps.{with_newest}
use Rattle.ptk_gate_memory.proofs.traced.run_batch.Goals as goal

pub returns-clause-traced : goal.returns-clause-traced
returns-clause-traced c = c.note.ensures.noted.2 ∙ ap (λ (es : List Entry). with_newest es c.args.trace.now) c.note.ensures.noted.3.noted
