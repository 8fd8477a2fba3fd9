use Rattle.std.specs.Prelude.{◌≡◌, replicate}
use Rattle.ptk_words.specs.declared.faults.Status.TheVariants.{Active}
use Rattle.ptk_gate_memory.proofs.records.all_active.Given as goal

abbrev pub invariant-loop-i : goal.invariant-loop-i
invariant-loop-i l = l.statuses.items ≡ replicate l.i Active
