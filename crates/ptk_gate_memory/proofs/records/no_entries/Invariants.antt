use Rattle.std.specs.Prelude.{◌≡◌, replicate, None}
use Rattle.ptk_gate_memory.proofs.records.no_entries.Given as goal

abbrev pub invariant-loop-i : goal.invariant-loop-i
invariant-loop-i l = l.lasts.items ≡ replicate l.i None
