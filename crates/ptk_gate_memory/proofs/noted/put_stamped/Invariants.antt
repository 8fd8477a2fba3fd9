use Rattle.std.proofs.Common.{◌≡◌, take}
use Rattle.ptk_rv32i.specs.Notes.{stamped}
use Rattle.ptk_gate_memory.proofs.noted.put_stamped.Given as goal

abbrev pub invariant-loop-i : goal.invariant-loop-i
invariant-loop-i l = take l.i l.room ≡ stamped l.tick l.thread (take l.i l.notes)
