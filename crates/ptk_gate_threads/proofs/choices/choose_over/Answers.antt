use Rattle.std.proofs.Common.{rules}
use Rattle.ptk_gate_threads.proofs.choices.choose_over.Goals as goal

pub returns-then-effective_priority : goal.returns-then-effective_priority
returns-then-effective_priority c = search rules
