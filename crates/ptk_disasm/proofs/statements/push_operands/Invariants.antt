use Rattle.std.proofs.Common.{◌≡◌, ◌++◌, drop}
use Rattle.std.specs.Prelude.{string_bytes}
use Rattle.ptk_asm_language.specs.Statements.{slots_of}
use Rattle.ptk_disasm.specs.Spelling.{operands_text, value_text}
use Rattle.ptk_disasm.specs.Writing.{shown}
use Rattle.ptk_disasm.proofs.statements.push_operands.Given as goal

abbrev pub invariant-loop-slot : goal.invariant-loop-slot
invariant-loop-slot l =
    (l.slot-items ≡ slots_of l.form)
    × (string_bytes l.out ++ operands_text (value_text l.form (shown l.number)) (drop l.slot-index l.slot-items) l.left
    ≡ string_bytes l.initial.out ++ operands_text (value_text l.form (shown l.number)) (slots_of l.form) l.initial.left)
