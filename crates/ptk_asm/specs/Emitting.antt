-- The instructions and the words of a statement as lists.
use Rattle.std.specs.Prelude.{ℕ, ◌≡◌, List, [], ◌∷◌, flat_map, map, Some, Bool, true, false, ℤ, nat_abs, replicate}
use Rattle.std.specs.Int.{w32, to_le_bytes, from_le_bytes}
use Rattle.ptk_rv32i_code.specs.declared.instr.Instr.{Instr}
use Rattle.ptk_rv32i_code.specs.Coding.{encoded, decoded}
use Rattle.ptk_asm_language.specs.declared.statement.Form.{Form}
use Rattle.ptk_asm_language.specs.declared.statement.Form.TheVariants as form
use Rattle.ptk_asm_language.specs.Statements.{instructions_of, bytes_of, field}
use Rattle.ptk_asm.specs.declared.instructions.Instructions as code
use Rattle.ptk_asm.specs.declared.instructions.Instructions.TheVariants as few

-- the instructions of the code as a list
abbrev pub listed : code.Instructions → List Instr
listed few.None = []
listed (few.One a) = a ∷ []
listed (few.Two a b) = a ∷ b ∷ []

-- the bytes of the words of instructions, least byte first (RISC-V 2.2)
abbrev pub word_bytes : List Instr → List ℕ
word_bytes is = flat_map (λ i. to_le_bytes w32 (encoded i)) is

-- the words that bytes are, four bytes each, least byte first (RISC-V 2.2)
abbrev pub words_in : List ℕ → List ℕ
words_in (a ∷ b ∷ c ∷ d ∷ rest) = from_le_bytes w32 (a ∷ b ∷ c ∷ d ∷ []) ∷ words_in rest
words_in bytes = []

-- the form is a directive that writes bytes
abbrev pub writes_data : Form → Bool
writes_data form.Word = true
writes_data form.Byte = true
writes_data form.Space = true
writes_data f = false

-- the bytes that a directive writes for a number, none for another form
abbrev pub data_bytes : Form → ℤ → List ℕ
data_bytes form.Word n = to_le_bytes w32 (field 32 n)
data_bytes form.Byte n = field 8 n ∷ []
data_bytes form.Space n = replicate (nat_abs n) 0
data_bytes f n = []

-- the words of a form's bytes, each decoded, are its instructions (RISC-V 2.2)
abbrev pub DecodesToWritten : Form → List ℕ → ℤ → Type 0
DecodesToWritten f rs n = map decoded (words_in (bytes_of f rs n)) ≡ map Some (instructions_of f rs n)
