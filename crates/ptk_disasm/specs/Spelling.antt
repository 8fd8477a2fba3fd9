-- The spelling of numbers, registers, operands, statements and lines.
use Rattle.std.specs.Prelude.{ℕ, suc, ◌≡◌, ◌<◌, ◌^◌, Bool, true, false, List, [], ◌∷◌, ◌++◌, ◌==◌, nat_lt, if◌then◌else◌, Some, option_map, unwrap_or, slice_get, ℤ, pos, negsuc, nat_abs, decimal, codes}
use Rattle.std.specs.Fmt.{digits}
use Rattle.ptk_rv32i_code.specs.declared.instr.BranchTest.TheVariants as test
use Rattle.ptk_rv32i_code.specs.declared.instr.LoadKind.TheVariants as load
use Rattle.ptk_rv32i_code.specs.declared.instr.StoreKind.TheVariants as store
use Rattle.ptk_rv32i_code.specs.declared.instr.ImmediateOp.TheVariants as immediate
use Rattle.ptk_rv32i_code.specs.declared.instr.ShiftOp.TheVariants as shift
use Rattle.ptk_rv32i_code.specs.declared.instr.RegisterOp.TheVariants as register
use Rattle.ptk_asm_language.specs.declared.statement.Section.TheVariants as section
use Rattle.ptk_asm_language.specs.declared.statement.Form.{Form}
use Rattle.ptk_asm_language.specs.declared.statement.Form.TheVariants as form
use Rattle.ptk_asm_language.specs.declared.statement.Slot.{Slot}
use Rattle.ptk_asm_language.specs.declared.statement.Slot.TheVariants as slot
use Rattle.ptk_asm_language.specs.Tokens.{Number, starts_run, pieces, token}
use Rattle.ptk_asm_language.specs.Statements.{Value, Nothing, Given, Labelled, called_names, slots_of}
use Rattle.ptk_asm_language.specs.Source.{Statement}

-- ---- mnemonics

-- the mnemonic of a form (RISC-V 2.4 to 2.8, 25; own)
abbrev pub mnemonic : Form → List ℕ
mnemonic (form.Within section.Text) = codes ".text"
mnemonic (form.Within section.Data) = codes ".data"
mnemonic (form.Within section.Bss) = codes ".bss"
mnemonic form.Word = codes ".word"
mnemonic form.Byte = codes ".byte"
mnemonic form.Space = codes ".space"
mnemonic (form.WithImmediate immediate.Add) = codes "addi"
mnemonic (form.WithImmediate immediate.Less) = codes "slti"
mnemonic (form.WithImmediate immediate.LessUnsigned) = codes "sltiu"
mnemonic (form.WithImmediate immediate.Xor) = codes "xori"
mnemonic (form.WithImmediate immediate.Or) = codes "ori"
mnemonic (form.WithImmediate immediate.And) = codes "andi"
mnemonic (form.Shift shift.Left) = codes "slli"
mnemonic (form.Shift shift.Right) = codes "srli"
mnemonic (form.Shift shift.RightSigned) = codes "srai"
mnemonic (form.WithRegister register.Add) = codes "add"
mnemonic (form.WithRegister register.Subtract) = codes "sub"
mnemonic (form.WithRegister register.ShiftLeft) = codes "sll"
mnemonic (form.WithRegister register.Less) = codes "slt"
mnemonic (form.WithRegister register.LessUnsigned) = codes "sltu"
mnemonic (form.WithRegister register.Xor) = codes "xor"
mnemonic (form.WithRegister register.ShiftRight) = codes "srl"
mnemonic (form.WithRegister register.ShiftRightSigned) = codes "sra"
mnemonic (form.WithRegister register.Or) = codes "or"
mnemonic (form.WithRegister register.And) = codes "and"
mnemonic (form.Load load.Byte) = codes "lb"
mnemonic (form.Load load.Half) = codes "lh"
mnemonic (form.Load load.Word) = codes "lw"
mnemonic (form.Load load.ByteUnsigned) = codes "lbu"
mnemonic (form.Load load.HalfUnsigned) = codes "lhu"
mnemonic (form.Store store.Byte) = codes "sb"
mnemonic (form.Store store.Half) = codes "sh"
mnemonic (form.Store store.Word) = codes "sw"
mnemonic (form.Branch test.Equal) = codes "beq"
mnemonic (form.Branch test.NotEqual) = codes "bne"
mnemonic (form.Branch test.Less) = codes "blt"
mnemonic (form.Branch test.NotLess) = codes "bge"
mnemonic (form.Branch test.LessUnsigned) = codes "bltu"
mnemonic (form.Branch test.NotLessUnsigned) = codes "bgeu"
mnemonic form.Jalr = codes "jalr"
mnemonic form.Jal = codes "jal"
mnemonic form.Lui = codes "lui"
mnemonic form.Auipc = codes "auipc"
mnemonic form.Ecall = codes "ecall"
mnemonic form.Ebreak = codes "ebreak"
mnemonic form.Fence = codes "fence"
mnemonic form.Nop = codes "nop"
mnemonic form.Move = codes "mv"
mnemonic form.Jump = codes "j"
mnemonic form.JumpRegister = codes "jr"
mnemonic form.Return = codes "ret"
mnemonic form.Call = codes "call"
mnemonic form.LoadValue = codes "li"
mnemonic form.LoadAddress = codes "la"

-- ---- operands

-- the name of a register by its use, which stands in the table at its number (RISC-V 25)
abbrev pub register_name : ℕ → List ℕ
register_name r = unwrap_or (option_map (λ (e : List ℕ × ℕ). e.0) (slice_get called_names r)) []

-- the numbers of the form are spelled with hexadecimal digits: words and upper parts (own)
abbrev pub is_hexadecimal : Form → Bool
is_hexadecimal form.Word = true
is_hexadecimal form.Lui = true
is_hexadecimal form.Auipc = true
is_hexadecimal f = false

-- a number of a form (own)
abbrev pub number_text : Form → ℤ → List ℕ
number_text f (pos n) = if is_hexadecimal f then codes "0x" ++ digits 16 false n else decimal n
number_text f (negsuc n) = codes "-" ++ decimal (suc n)

-- the number or label of a form (own)
abbrev pub value_text : Form → Value → List ℕ
value_text f Nothing = []
value_text f (Given n) = number_text f n
value_text f (Labelled name) = name

-- a mark, and a blank after a comma; the marks of the language are ASCII (own)
abbrev pub mark_text : ℕ → List ℕ
mark_text m = if m == 44 then codes ", " else (if nat_lt m 128 then m ∷ [] else [])

-- the operands in these places: the registers from left to right, and the text of the number or label (own)
abbrev pub operands_text : List ℕ → List Slot → List ℕ → List ℕ
operands_text value [] rs = []
operands_text value (slot.Mark m ∷ slots) rs = mark_text m ++ operands_text value slots rs
operands_text value (slot.Register ∷ slots) [] = operands_text value slots []
operands_text value (slot.Register ∷ slots) (r ∷ rs) = register_name r ++ operands_text value slots rs
operands_text value (s ∷ slots) rs = value ++ operands_text value slots rs

-- ---- statements and lines

-- what comes after a mnemonic, with a blank before it if the form has operands (own)
abbrev pub behind : List Slot → List ℕ → List ℕ
behind [] text = []
behind (s ∷ slots) text = 32 ∷ text

-- a statement (own)
abbrev pub statement_text : Statement → List ℕ
statement_text s = mnemonic s.form ++ behind (slots_of s.form) (operands_text (value_text s.form s.operands.value) (slots_of s.form) s.operands.registers)

-- a line: the label of the entry, or a statement with a comment (own)
pub data Line : Type 0 where
  Entry : Line
  Stated : Statement → List ℕ → Line

-- a comment after a statement (own)
abbrev pub comment_text : List ℕ → List ℕ
comment_text comment = codes " # " ++ comment

-- a line without its LF (own)
abbrev pub line_text : Line → List ℕ
line_text Entry = codes "_start:"
line_text (Stated s comment) = statement_text s ++ comment_text comment

-- a number of at most 64 bits is the first piece before what begins no run, and this piece is a token of its value
abbrev pub NumberReadsBack : Form → ℤ → Type 0
NumberReadsBack f n =
    nat_abs n < 2 ^ 64 → (rest : List ℕ) → starts_run rest ≡ false
    → (pieces (number_text f n ++ rest) ≡ number_text f n ∷ pieces rest) × (token (number_text f n) ≡ Some (Number n))
