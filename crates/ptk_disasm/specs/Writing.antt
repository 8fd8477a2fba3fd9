-- What the code writes, as the definitions have it.
use Rattle.std.specs.Prelude.{ℕ, ◌<◌, ◌≤◌, length, List, Option, Some, None, ℤ}
use Rattle.ptk_words.specs.Image.{ImageParts}
use Rattle.ptk_asm_language.specs.declared.statement.Form.{Form}
use Rattle.ptk_asm_language.specs.declared.statement.Section.TheVariants as section
use Rattle.ptk_asm_language.specs.Statements.{Value, Nothing, Given}
use Rattle.ptk_asm_language.specs.Source.{Statement, longest}
use Rattle.ptk_disasm.specs.declared.fault.DisasmFault.{DisasmFault}
use Rattle.ptk_disasm.specs.declared.fault.DisasmFault.TheVariants as fault
use Rattle.ptk_disasm.specs.Disassembly.{FitsSource}

-- the number of a statement, or nothing (own)
abbrev pub shown : Option ℤ → Value
shown None = Nothing
shown (Some n) = Given n

-- a form with registers and a number, or with registers alone (own)
abbrev pub stated : Form → List ℕ → Option ℤ → Statement
stated f rs number = record { form = f; operands = record { registers = rs; value = shown number } }

-- the first section that is longer than the language allows, or out of memory if all of them fit (own)
abbrev pub IsRefused : ImageParts → DisasmFault → Type 0
IsRefused image (fault.TooLong section.Text) = longest < length image.text
IsRefused image (fault.TooLong section.Data) = (length image.text ≤ longest) × (longest < length image.«data»)
IsRefused image (fault.TooLong section.Bss) = (length image.text ≤ longest) × (length image.«data» ≤ longest) × (longest < image.bss)
IsRefused image fault.Memory = FitsSource image
