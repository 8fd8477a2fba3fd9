-- The statement that writes a word.
use Rattle.std.specs.Prelude.{ℕ, ◌-◌, ◌^◌, ◌&&◌, ◌==◌, List, [], ◌∷◌, nat_lt, if◌then◌else◌, Option, Some, None, ℤ, pos, negsuc}
use Rattle.ptk_rv32i_code.specs.declared.instr.Instr.{Instr}
use Rattle.ptk_rv32i_code.specs.declared.instr.Instr.TheVariants as instr
use Rattle.ptk_rv32i_code.specs.declared.instr.ImmediateOp.{ImmediateOp}
use Rattle.ptk_rv32i_code.specs.declared.instr.ImmediateOp.TheVariants as immediate
use Rattle.ptk_rv32i_code.specs.Coding.{decoded}
use Rattle.ptk_asm_language.specs.declared.statement.Form.{Form}
use Rattle.ptk_asm_language.specs.declared.statement.Form.TheVariants as form
use Rattle.ptk_asm_language.specs.Statements.{Nothing, Given}
use Rattle.ptk_asm_language.specs.Source.{Statement}

-- a form with registers alone (own)
abbrev pub bare : Form → List ℕ → Statement
bare f rs = record { form = f; operands = record { registers = rs; value = Nothing } }

-- a form with registers and a number (own)
abbrev pub given : Form → List ℕ → ℤ → Statement
given f rs n = record { form = f; operands = record { registers = rs; value = Given n } }

-- the number that this many bits are as two's complement (RISC-V 1.5)
abbrev pub signed : ℕ → ℕ → ℤ
signed width bits = if nat_lt bits (2 ^ (width - 1)) then pos bits else negsuc (2 ^ width - 1 - bits)

-- addi: nop, li or mv if it is that (RISC-V 25)
abbrev pub add_statement : ℕ → ℕ → ℕ → Statement
add_statement rd rs1 bits =
    if rs1 == 0 then (if rd == 0 && bits == 0 then bare form.Nop [] else given form.LoadValue (rd ∷ []) (signed 12 bits))
    else (if bits == 0 then bare form.Move (rd ∷ rs1 ∷ []) else given (form.WithImmediate immediate.Add) (rd ∷ rs1 ∷ []) (signed 12 bits))

-- an operation with an immediate (RISC-V 2.4)
abbrev pub immediate_statement : ImmediateOp → ℕ → ℕ → ℕ → Statement
immediate_statement immediate.Add rd rs1 bits = add_statement rd rs1 bits
immediate_statement op rd rs1 bits = given (form.WithImmediate op) (rd ∷ rs1 ∷ []) (signed 12 bits)

-- jalr: ret or jr if it is that (RISC-V 25)
abbrev pub jalr_statement : ℕ → ℕ → ℕ → Statement
jalr_statement rd rs1 bits =
    if rd == 0 && bits == 0 then (if rs1 == 1 then bare form.Return [] else bare form.JumpRegister (rs1 ∷ []))
    else given form.Jalr (rd ∷ rs1 ∷ []) (signed 12 bits)

-- jal: j if it is that (RISC-V 25)
abbrev pub jal_statement : ℕ → ℕ → Statement
jal_statement rd bits = if rd == 0 then given form.Jump [] (signed 21 bits) else given form.Jal (rd ∷ []) (signed 21 bits)

-- a word by its value (own)
abbrev pub word_statement : ℕ → Statement
word_statement word = given form.Word [] (pos word)

-- fence, whose other fields than those of `fence` no mnemonic has (RISC-V 2.7; own)
abbrev pub fence_statement : ℕ → Statement
fence_statement word = if word == 0x0ff0000f then bare form.Fence [] else word_statement word

-- the statement of an instruction, and of its word (RISC-V 2.4 to 2.8)
abbrev pub instruction_statement : ℕ → Instr → Statement
instruction_statement word (instr.Lui rd bits) = given form.Lui (rd ∷ []) (pos bits)
instruction_statement word (instr.Auipc rd bits) = given form.Auipc (rd ∷ []) (pos bits)
instruction_statement word (instr.Jal rd bits) = jal_statement rd bits
instruction_statement word (instr.Jalr rd rs1 bits) = jalr_statement rd rs1 bits
instruction_statement word (instr.Branch t rs1 rs2 bits) = given (form.Branch t) (rs1 ∷ rs2 ∷ []) (signed 13 bits)
instruction_statement word (instr.Load k rd rs1 bits) = given (form.Load k) (rd ∷ rs1 ∷ []) (signed 12 bits)
instruction_statement word (instr.Store k rs1 rs2 bits) = given (form.Store k) (rs2 ∷ rs1 ∷ []) (signed 12 bits)
instruction_statement word (instr.WithImmediate op rd rs1 bits) = immediate_statement op rd rs1 bits
instruction_statement word (instr.Shift op rd rs1 bits) = given (form.Shift op) (rd ∷ rs1 ∷ []) (pos bits)
instruction_statement word (instr.WithRegister op rd rs1 rs2) = bare (form.WithRegister op) (rd ∷ rs1 ∷ rs2 ∷ [])
instruction_statement word (instr.Fence rd rs1 bits) = fence_statement word
instruction_statement word instr.Ecall = bare form.Ecall []
instruction_statement word instr.Ebreak = bare form.Ebreak []

-- the statement of a word with this instruction, or with none (own)
abbrev pub decoded_statement : ℕ → Option Instr → Statement
decoded_statement word None = word_statement word
decoded_statement word (Some i) = instruction_statement word i

-- the statement that writes a word of the text (own)
abbrev pub statement_for : ℕ → Statement
statement_for word = decoded_statement word (decoded word)
