-- The statements of the language: their mnemonics, what stands in their places, and what they mean.
use Rattle.std.specs.Prelude.{ℕ, ◌+◌, ◌-◌, ◌*◌, ◌/◌, ◌%◌, ◌^◌, Bool, true, false, ◌&&◌, List, [], ◌∷◌, ◌++◌, find, flat_map, replicate, ◌==◌, if◌then◌else◌, Option, Some, None, option_map, Result, Ok, Err, ℤ, pos, negsuc, nat_abs, nat_le, nat_lt, slice_index, codes}
use Rattle.std.specs.Option.{option_or}
use Rattle.std.specs.Int.{w32, to_le_bytes}
use Rattle.std.specs.Str.{bytes_eq}
use Rattle.ptk_words.specs.Results.{◌>>=◌}
use Rattle.ptk_rv32i_code.specs.declared.instr.Instr.{Instr}
use Rattle.ptk_rv32i_code.specs.declared.instr.Instr.TheVariants as instr
use Rattle.ptk_rv32i_code.specs.declared.instr.BranchTest.TheVariants as test
use Rattle.ptk_rv32i_code.specs.declared.instr.LoadKind.TheVariants as load
use Rattle.ptk_rv32i_code.specs.declared.instr.StoreKind.TheVariants as store
use Rattle.ptk_rv32i_code.specs.declared.instr.ImmediateOp.TheVariants as immediate
use Rattle.ptk_rv32i_code.specs.declared.instr.ShiftOp.TheVariants as shift
use Rattle.ptk_rv32i_code.specs.declared.instr.RegisterOp.TheVariants as register
use Rattle.ptk_rv32i_code.specs.Coding.{encoded}
use Rattle.ptk_asm_language.specs.declared.statement.Section.{Section}
use Rattle.ptk_asm_language.specs.declared.statement.Section.TheVariants as section
use Rattle.ptk_asm_language.specs.declared.statement.Form.{Form}
use Rattle.ptk_asm_language.specs.declared.statement.Form.TheVariants as form
use Rattle.ptk_asm_language.specs.declared.statement.Slot.{Slot}
use Rattle.ptk_asm_language.specs.declared.statement.Slot.TheVariants as slot
use Rattle.ptk_asm_language.specs.declared.fault.FaultKind.{FaultKind}
use Rattle.ptk_asm_language.specs.declared.fault.FaultKind.TheVariants as fault
use Rattle.ptk_asm_language.specs.Tokens.{Token, Name, Number, Mark}

-- ---- mnemonics

-- sections and data (own)
abbrev pub directives : List (List ℕ × Form)
directives =
    (codes ".text", form.Within section.Text)
    ∷ (codes ".data", form.Within section.Data)
    ∷ (codes ".bss", form.Within section.Bss)
    ∷ (codes ".word", form.Word)
    ∷ (codes ".byte", form.Byte)
    ∷ (codes ".space", form.Space)
    ∷ []

-- calls and short forms (RISC-V 25; own)
abbrev pub short_mnemonics : List (List ℕ × Form)
short_mnemonics =
    (codes "ecall", form.Ecall)
    ∷ (codes "ebreak", form.Ebreak)
    ∷ (codes "fence", form.Fence)
    ∷ (codes "nop", form.Nop)
    ∷ (codes "mv", form.Move)
    ∷ (codes "j", form.Jump)
    ∷ (codes "jr", form.JumpRegister)
    ∷ (codes "ret", form.Return)
    ∷ (codes "call", form.Call)
    ∷ (codes "li", form.LoadValue)
    ∷ (codes "la", form.LoadAddress)
    ∷ []

-- computation (RISC-V 2.4)
abbrev pub computing_mnemonics : List (List ℕ × Form)
computing_mnemonics =
    (codes "addi", form.WithImmediate immediate.Add)
    ∷ (codes "slti", form.WithImmediate immediate.Less)
    ∷ (codes "sltiu", form.WithImmediate immediate.LessUnsigned)
    ∷ (codes "xori", form.WithImmediate immediate.Xor)
    ∷ (codes "ori", form.WithImmediate immediate.Or)
    ∷ (codes "andi", form.WithImmediate immediate.And)
    ∷ (codes "slli", form.Shift shift.Left)
    ∷ (codes "srli", form.Shift shift.Right)
    ∷ (codes "srai", form.Shift shift.RightSigned)
    ∷ (codes "add", form.WithRegister register.Add)
    ∷ (codes "sub", form.WithRegister register.Subtract)
    ∷ (codes "sll", form.WithRegister register.ShiftLeft)
    ∷ (codes "slt", form.WithRegister register.Less)
    ∷ (codes "sltu", form.WithRegister register.LessUnsigned)
    ∷ (codes "xor", form.WithRegister register.Xor)
    ∷ (codes "srl", form.WithRegister register.ShiftRight)
    ∷ (codes "sra", form.WithRegister register.ShiftRightSigned)
    ∷ (codes "or", form.WithRegister register.Or)
    ∷ (codes "and", form.WithRegister register.And)
    ∷ []

-- loads, stores, branches, jumps, upper parts (RISC-V 2.4 to 2.6)
abbrev pub moving_mnemonics : List (List ℕ × Form)
moving_mnemonics =
    (codes "lb", form.Load load.Byte)
    ∷ (codes "lh", form.Load load.Half)
    ∷ (codes "lw", form.Load load.Word)
    ∷ (codes "lbu", form.Load load.ByteUnsigned)
    ∷ (codes "lhu", form.Load load.HalfUnsigned)
    ∷ (codes "sb", form.Store store.Byte)
    ∷ (codes "sh", form.Store store.Half)
    ∷ (codes "sw", form.Store store.Word)
    ∷ (codes "beq", form.Branch test.Equal)
    ∷ (codes "bne", form.Branch test.NotEqual)
    ∷ (codes "blt", form.Branch test.Less)
    ∷ (codes "bge", form.Branch test.NotLess)
    ∷ (codes "bltu", form.Branch test.LessUnsigned)
    ∷ (codes "bgeu", form.Branch test.NotLessUnsigned)
    ∷ (codes "jalr", form.Jalr)
    ∷ (codes "jal", form.Jal)
    ∷ (codes "lui", form.Lui)
    ∷ (codes "auipc", form.Auipc)
    ∷ []

-- the entry of a name in a table (own)
abbrev pub named : {A : Type 0} → List (List ℕ × A) → List ℕ → Option A
named {A} table name = option_map (λ (e : List ℕ × A). e.1) (find (λ (e : List ℕ × A). bytes_eq e.0 name) table)

-- the form of a directive (own)
unfoldable pub directive : List ℕ → Option Form
directive name = named directives name

-- the form of a call or a short form (RISC-V 25; own)
unfoldable pub short_form : List ℕ → Option Form
short_form name = named short_mnemonics name

-- the form of a computation (RISC-V 2.4)
unfoldable pub computing_form : List ℕ → Option Form
computing_form name = named computing_mnemonics name

-- the form of a load, a store, a branch, a jump or an upper part (RISC-V 2.4 to 2.6)
unfoldable pub moving_form : List ℕ → Option Form
moving_form name = named moving_mnemonics name

-- the form of a mnemonic (own)
abbrev pub form_named : List ℕ → Option Form
form_named name = option_or (directive name) (option_or (short_form name) (option_or (computing_form name) (moving_form name)))

-- ---- registers

-- the names by use (RISC-V 25)
abbrev pub called_names : List (List ℕ × ℕ)
called_names =
    (codes "zero", 0) ∷ (codes "ra", 1) ∷ (codes "sp", 2) ∷ (codes "gp", 3) ∷ (codes "tp", 4) ∷
    (codes "t0", 5) ∷ (codes "t1", 6) ∷ (codes "t2", 7) ∷ (codes "s0", 8) ∷ (codes "s1", 9) ∷
    (codes "a0", 10) ∷ (codes "a1", 11) ∷ (codes "a2", 12) ∷ (codes "a3", 13) ∷ (codes "a4", 14) ∷
    (codes "a5", 15) ∷ (codes "a6", 16) ∷ (codes "a7", 17) ∷ (codes "s2", 18) ∷ (codes "s3", 19) ∷
    (codes "s4", 20) ∷ (codes "s5", 21) ∷ (codes "s6", 22) ∷ (codes "s7", 23) ∷ (codes "s8", 24) ∷
    (codes "s9", 25) ∷ (codes "s10", 26) ∷ (codes "s11", 27) ∷ (codes "t3", 28) ∷
    (codes "t4", 29) ∷ (codes "t5", 30) ∷ (codes "t6", 31) ∷ (codes "fp", 8) ∷ []

-- the names by number (RISC-V 2.1)
abbrev pub numbered_names : List (List ℕ × ℕ)
numbered_names =
    (codes "x0", 0) ∷ (codes "x1", 1) ∷ (codes "x2", 2) ∷ (codes "x3", 3) ∷ (codes "x4", 4) ∷
    (codes "x5", 5) ∷ (codes "x6", 6) ∷ (codes "x7", 7) ∷ (codes "x8", 8) ∷ (codes "x9", 9) ∷
    (codes "x10", 10) ∷ (codes "x11", 11) ∷ (codes "x12", 12) ∷ (codes "x13", 13) ∷
    (codes "x14", 14) ∷ (codes "x15", 15) ∷ (codes "x16", 16) ∷ (codes "x17", 17) ∷
    (codes "x18", 18) ∷ (codes "x19", 19) ∷ (codes "x20", 20) ∷ (codes "x21", 21) ∷
    (codes "x22", 22) ∷ (codes "x23", 23) ∷ (codes "x24", 24) ∷ (codes "x25", 25) ∷
    (codes "x26", 26) ∷ (codes "x27", 27) ∷ (codes "x28", 28) ∷ (codes "x29", 29) ∷
    (codes "x30", 30) ∷ (codes "x31", 31) ∷ []

-- the register of a name by use (RISC-V 25)
unfoldable pub called : List ℕ → Option ℕ
called name = named called_names name

-- the register of a name by number (RISC-V 2.1)
unfoldable pub numbered : List ℕ → Option ℕ
numbered name = named numbered_names name

-- the register of a name (RISC-V 25)
abbrev pub register_named : List ℕ → Option ℕ
register_named name = option_or (called name) (numbered name)

-- ---- sections

-- the section has room for statements of this form (own)
abbrev pub stands_in : Form → Section → Bool
stands_in (form.Within s) at = true
stands_in form.Word section.Bss = false
stands_in form.Word at = true
stands_in form.Byte section.Data = true
stands_in form.Byte at = false
stands_in form.Space section.Text = false
stands_in form.Space at = true
stands_in f section.Text = true
stands_in f at = false

-- ---- operands

-- a comma (own)
abbrev pub comma : Slot
comma = slot.Mark 44

-- the offset of a load, a store or JALR, an immediate of 12 bits (RISC-V 2.4)
abbrev pub offset : Slot
offset = slot.Number 2048 2047

-- the target of JAL (RISC-V 2.5)
abbrev pub jump_target : Slot
jump_target = slot.Target 1048576 1048574

-- rd, imm(rs1)
abbrev pub indexed : List Slot
indexed = slot.Register ∷ comma ∷ offset ∷ slot.Mark 40 ∷ slot.Register ∷ slot.Mark 41 ∷ []

-- what stands behind the mnemonic, from left to right (own)
abbrev pub slots_of : Form → List Slot
slots_of form.Word = slot.NumberOrLabel 2147483648 4294967295 ∷ []
slots_of form.Byte = slot.Number 128 255 ∷ []
slots_of form.Space = slot.Number 0 1048576 ∷ []
slots_of (form.WithImmediate op) = slot.Register ∷ comma ∷ slot.Register ∷ comma ∷ offset ∷ []
slots_of (form.Shift op) = slot.Register ∷ comma ∷ slot.Register ∷ comma ∷ slot.Number 0 31 ∷ []
slots_of (form.WithRegister op) = slot.Register ∷ comma ∷ slot.Register ∷ comma ∷ slot.Register ∷ []
slots_of (form.Load k) = indexed
slots_of (form.Store k) = indexed
slots_of (form.Branch t) = slot.Register ∷ comma ∷ slot.Register ∷ comma ∷ slot.Target 4096 4094 ∷ []
slots_of form.Jalr = indexed
slots_of form.Jal = slot.Register ∷ comma ∷ jump_target ∷ []
slots_of form.Lui = slot.Register ∷ comma ∷ slot.Number 0 1048575 ∷ []
slots_of form.Auipc = slot.Register ∷ comma ∷ slot.Number 0 1048575 ∷ []
slots_of form.Move = slot.Register ∷ comma ∷ slot.Register ∷ []
slots_of form.Jump = jump_target ∷ []
slots_of form.JumpRegister = slot.Register ∷ []
slots_of form.Call = slot.Label ∷ []
slots_of form.LoadValue = slot.Register ∷ comma ∷ slot.Number 2147483648 4294967295 ∷ []
slots_of form.LoadAddress = slot.Register ∷ comma ∷ slot.Label ∷ []
slots_of f = []

-- what a statement names beside its registers (own)
pub data Value : Type 0 where
  Nothing : Value
  Given : ℤ → Value
  Labelled : List ℕ → Value

-- the operands of a statement: its registers from left to right, and the number or label (own)
pub record Operands : Type 0 where
  pub registers : List ℕ
  pub value : Value

-- no register, no number, no label (own)
abbrev pub no_operands : Operands
no_operands = record { registers = []; value = Nothing }

-- the operands with a register more (own)
abbrev pub with_register : Operands → ℕ → Operands
with_register o r = record o { registers = o.registers ++ r ∷ [] }

-- the operands with this number or label (own)
abbrev pub with_value : Operands → Value → Operands
with_value o v = record o { value = v }

-- a multiple of 2 (own)
abbrev pub is_even : ℤ → Bool
is_even n = nat_abs n % 2 == 0

-- at most so far below 0, and at most so far above it (own)
abbrev pub is_within : ℕ → ℕ → ℤ → Bool
is_within below above (pos n) = nat_le n above
is_within below above (negsuc n) = nat_lt n below

-- with the number, where the test passes (own)
abbrev pub given_if : Operands → Bool → ℤ → Result Operands FaultKind
given_if o fits n = if fits then Ok (with_value o (Given n)) else Err fault.Range

-- the operands with the register, where there is one (own)
abbrev pub register_or_fault : Operands → Option ℕ → Result Operands FaultKind
register_or_fault o (Some r) = Ok (with_register o r)
register_or_fault o None = Err fault.Register

-- the operands with that of a token in its place, or the fault of it there (own)
abbrev pub operand : Operands → Slot → Token → Result Operands FaultKind
operand o (slot.Mark m) (Mark n) = if m == n then Ok o else Err fault.Token
operand o slot.Register (Name n) = register_or_fault o (register_named n)
operand o slot.Register (Number n) = Err fault.Register
operand o (slot.Number below above) (Number n) = given_if o (is_within below above n) n
operand o (slot.NumberOrLabel below above) (Number n) = given_if o (is_within below above n) n
operand o (slot.NumberOrLabel below above) (Name n) = Ok (with_value o (Labelled n))
operand o (slot.Target below above) (Number n) = given_if o (is_within below above n && is_even n) n
operand o (slot.Target below above) (Name n) = Ok (with_value o (Labelled n))
operand o slot.Label (Name n) = Ok (with_value o (Labelled n))
operand o s t = Err fault.Token

-- the operands with those that tokens give in these places, or the first fault from the left (own)
abbrev pub operands_with : Operands → List Slot → List Token → Result Operands FaultKind
operands_with o [] [] = Ok o
operands_with o [] (t ∷ ts) = Err fault.Token
operands_with o (s ∷ ss) [] = Err fault.Token
operands_with o (s ∷ ss) (t ∷ ts) = operand o s t >>= λ more. operands_with more ss ts

-- the operands that tokens give in these places, or the first fault from the left (own)
abbrev pub operands_of : List Slot → List Token → Result Operands FaultKind
operands_of slots tokens = operands_with no_operands slots tokens

-- ---- meaning

-- a number in this many bits, as two's complement (RISC-V 1.5)
abbrev pub field : ℕ → ℤ → ℕ
field width (pos n) = n % 2 ^ width
field width (negsuc n) = 2 ^ width - 1 - n % 2 ^ width

-- a distance in this many bits, the lowest of which is 0 (RISC-V 2.3)
abbrev pub distance_field : ℕ → ℤ → ℕ
distance_field width n = field width n / 2 * 2

-- the low 12 bits of a value as lui and addi read them, and the upper 20 bits of the value minus these (RISC-V 2.4)
abbrev pub low_bits : ℤ → ℕ
low_bits n = field 12 n

-- the upper 20 bits of a value minus its low 12 bits as lui and addi read them, modulo 2^32 (RISC-V 2.4)
abbrev pub upper_bits : ℤ → ℕ
upper_bits n = (field 32 n + 2048) / 2 ^ 12 % 2 ^ 20

-- the register is this value, by lui and addi (RISC-V 25)
abbrev pub pair : ℕ → ℤ → List Instr
pair rd n = instr.Lui rd (upper_bits n) ∷ instr.WithImmediate immediate.Add rd rd (low_bits n) ∷ []

-- the value is an immediate of 12 bits (RISC-V 2.4)
abbrev pub is_short : ℤ → Bool
is_short n = is_within 2048 2047 n

-- the instructions that a form stands for, at these registers and this number: a distance for branches and jumps, else a value or an address (RISC-V 2.4 to 2.8, 25)
abbrev pub instructions_of : Form → List ℕ → ℤ → List Instr
instructions_of (form.WithImmediate op) rs n = instr.WithImmediate op (slice_index rs 0) (slice_index rs 1) (field 12 n) ∷ []
instructions_of (form.Shift op) rs n = instr.Shift op (slice_index rs 0) (slice_index rs 1) (field 5 n) ∷ []
instructions_of (form.WithRegister op) rs n = instr.WithRegister op (slice_index rs 0) (slice_index rs 1) (slice_index rs 2) ∷ []
instructions_of (form.Load k) rs n = instr.Load k (slice_index rs 0) (slice_index rs 1) (field 12 n) ∷ []
instructions_of (form.Store k) rs n = instr.Store k (slice_index rs 1) (slice_index rs 0) (field 12 n) ∷ []
instructions_of (form.Branch t) rs n = instr.Branch t (slice_index rs 0) (slice_index rs 1) (distance_field 13 n) ∷ []
instructions_of form.Jalr rs n = instr.Jalr (slice_index rs 0) (slice_index rs 1) (field 12 n) ∷ []
instructions_of form.Jal rs n = instr.Jal (slice_index rs 0) (distance_field 21 n) ∷ []
instructions_of form.Lui rs n = instr.Lui (slice_index rs 0) (field 20 n) ∷ []
instructions_of form.Auipc rs n = instr.Auipc (slice_index rs 0) (field 20 n) ∷ []
instructions_of form.Ecall rs n = instr.Ecall ∷ []
instructions_of form.Ebreak rs n = instr.Ebreak ∷ []
instructions_of form.Fence rs n = instr.Fence 0 0 255 ∷ []
instructions_of form.Nop rs n = instr.WithImmediate immediate.Add 0 0 0 ∷ []
instructions_of form.Move rs n = instr.WithImmediate immediate.Add (slice_index rs 0) (slice_index rs 1) 0 ∷ []
instructions_of form.Jump rs n = instr.Jal 0 (distance_field 21 n) ∷ []
instructions_of form.JumpRegister rs n = instr.Jalr 0 (slice_index rs 0) 0 ∷ []
instructions_of form.Return rs n = instr.Jalr 0 1 0 ∷ []
instructions_of form.Call rs n = instr.Jal 1 (distance_field 21 n) ∷ []
instructions_of form.LoadValue rs n =
    if is_short n then instr.WithImmediate immediate.Add (slice_index rs 0) 0 (field 12 n) ∷ [] else pair (slice_index rs 0) n
instructions_of form.LoadAddress rs n = pair (slice_index rs 0) n
instructions_of f rs n = []

-- the bytes of a form there (own)
abbrev pub bytes_of : Form → List ℕ → ℤ → List ℕ
bytes_of form.Word rs n = to_le_bytes w32 (field 32 n)
bytes_of form.Byte rs n = field 8 n ∷ []
bytes_of form.Space rs n = replicate (nat_abs n) 0
bytes_of f rs n = flat_map (λ i. to_le_bytes w32 (encoded i)) (instructions_of f rs n)

-- how many bytes a form takes, known without the addresses of labels (own)
abbrev pub size_of : Form → Value → ℕ
size_of (form.Within s) v = 0
size_of form.Byte v = 1
size_of form.Space (Given n) = nat_abs n
size_of form.LoadValue (Given n) = if is_short n then 4 else 8
size_of form.LoadAddress v = 8
size_of f v = 4

-- the distances that a label may have, as how far below 0 and above it, None for a form that takes its address (RISC-V 2.5; own)
abbrev pub distances : Form → Option (ℕ × ℕ)
distances (form.Branch t) = Some (4096, 4094)
distances form.Jal = Some (1048576, 1048574)
distances form.Jump = Some (1048576, 1048574)
distances form.Call = Some (1048576, 1048574)
distances f = None
