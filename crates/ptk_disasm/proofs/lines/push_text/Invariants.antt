use Rattle.std.proofs.Common.{◌≡◌, ◌++◌, ◌+◌, ◌%◌, length}
use Rattle.std.specs.Prelude.{string_bytes}
use Rattle.ptk_asm.specs.Emitting.{words_in}
use Rattle.ptk_disasm.specs.Disassembly.{names_of, text_for, text_lines}
use Rattle.ptk_disasm.proofs.lines.push_text.Given as goal

abbrev pub invariant-loop-rest : goal.invariant-loop-rest
invariant-loop-rest l =
    (length l.rest % 4 ≡ 0)
    × (l.at + length l.rest ≡ length l.initial.rest)
    × (string_bytes l.out ++ text_for (text_lines (names_of l.symbols) l.entry l.at (words_in l.rest)) ≡ string_bytes l.initial.out ++ text_for (text_lines (names_of l.symbols) l.entry 0 (words_in l.initial.rest)))

abbrev pub decreases-loop-rest : goal.decreases-loop-rest
decreases-loop-rest l = length l.rest
