-- The code's operands as those of the definition.
use Rattle.std.specs.Prelude.{Bool, Result, Ok, Err, if◌then◌else◌, ℤ}
use Rattle.ptk_asm_language.specs.declared.operands.Operands as code
use Rattle.ptk_asm_language.specs.declared.operands.Value as code_value
use Rattle.ptk_asm_language.specs.declared.operands.Value.TheVariants as value
use Rattle.ptk_asm_language.specs.declared.fault.FaultKind.{FaultKind}
use Rattle.ptk_asm_language.specs.declared.fault.FaultKind.TheVariants as fault
use Rattle.ptk_asm_language.specs.Statements.{Operands, Value, Nothing, Given, Labelled}

-- the number or label of the code as the definition's
abbrev pub shown_value : code_value.Value → Value
shown_value value.Nothing = Nothing
shown_value (value.Given n) = Given n
shown_value (value.Labelled name) = Labelled name.now

-- the operands of the code as the definition's
abbrev pub shown : code.Operands → Operands
shown o = record { registers = o.registers.items; value = shown_value o.value }

-- the number where it passes a test, or a number out of range
abbrev pub number_if : Bool → ℤ → Result ℤ FaultKind
number_if fits n = if fits then Ok n else Err fault.Range
