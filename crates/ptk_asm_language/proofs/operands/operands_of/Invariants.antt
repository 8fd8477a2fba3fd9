use Rattle.std.proofs.Common.{◌≡◌, ◌≤◌, ◌+◌, length, drop}
use Rattle.ptk_asm_language.specs.Statements as is
use Rattle.ptk_asm_language.specs.Places.{operand_index}
use Rattle.ptk_asm_language.specs.Reading.{views}
use Rattle.ptk_asm_language.specs.Operating.{shown}
use Rattle.ptk_asm_language.proofs.operands.operands_of.Given as goal

abbrev pub invariant-loop-i : goal.invariant-loop-i
invariant-loop-i l =
    (l.i ≤ length l.tokens)
    × (is.operands_with (shown l.operands) (drop l.i l.slots) (views (drop l.i l.tokens)) ≡ is.operands_of l.slots (views l.tokens))
    × (l.i + operand_index (shown l.operands) (drop l.i l.slots) (views (drop l.i l.tokens)) ≡ operand_index is.no_operands l.slots (views l.tokens))
