use Rattle.std.proofs.Common.{◌≡◌, ◌++◌, ◌+◌, length}
use Rattle.std.specs.Prelude.{string_bytes}
use Rattle.ptk_disasm.specs.Disassembly.{text_for, data_lines}
use Rattle.ptk_disasm.proofs.lines.push_data.Given as goal

abbrev pub invariant-loop-rest : goal.invariant-loop-rest
invariant-loop-rest l =
    (l.at + length l.rest ≡ l.initial.at + length l.initial.rest)
    × (string_bytes l.out ++ text_for (data_lines l.at l.rest) ≡ string_bytes l.initial.out ++ text_for (data_lines l.initial.at l.initial.rest))

abbrev pub decreases-loop-rest : goal.decreases-loop-rest
decreases-loop-rest l = length l.rest
