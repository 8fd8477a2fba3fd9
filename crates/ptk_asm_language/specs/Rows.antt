-- Worked sources and what they give.
use Rattle.std.specs.Prelude.{ℕ, ◌≡◌, ◌+◌, [], ◌∷◌, ◌++◌, Result, Ok, Err, codes}
use Rattle.ptk_words.specs.Image.{ImageParts}
use Rattle.ptk_asm_language.specs.declared.fault.FaultKind.{FaultKind}
use Rattle.ptk_asm_language.specs.declared.fault.FaultKind.TheVariants as fault
use Rattle.ptk_asm_language.specs.Source.{source, Fault}

-- the image, or the line of the first fault, the bytes of the source at fault, and its kind (own)
abbrev pub told : Result ImageParts Fault → Result ImageParts (ℕ × ℕ × ℕ × FaultKind)
told (Ok i) = Ok i
told (Err f) = Err (f.span.line, f.span.start + f.place.from, f.span.start + f.place.to, f.kind)

-- a label that a line before has (own)
abbrev pub DoubledLabel : Type 0
DoubledLabel = told (source (codes "a:" ++ 10 ∷ [] ++ codes "a:")) ≡ Err (2, 3, 4, fault.DoubledLabel)

-- an immediate above 2047 (own)
abbrev pub OperandOutOfRange : Type 0
OperandOutOfRange = told (source (codes "nop" ++ 10 ∷ [] ++ codes "addi a0, a0, 2048")) ≡ Err (2, 17, 21, fault.Range)

-- an unknown label, and behind it an unknown mnemonic: the first pass comes first (own)
abbrev pub UnknownLabelAfter : Type 0
UnknownLabelAfter = told (source (codes "j x" ++ 10 ∷ [] ++ codes "foo")) ≡ Err (2, 4, 7, fault.Mnemonic)

-- a label that no line has (own)
abbrev pub UnknownLabel : Type 0
UnknownLabel = told (source (codes "nop" ++ 10 ∷ [] ++ codes "j x" ++ 10 ∷ [])) ≡ Err (2, 6, 7, fault.UnknownLabel)

-- a `-` with no number just after it (own)
abbrev pub LoneDash : Type 0
LoneDash = told (source (codes "addi a0, a0, - 1")) ≡ Err (1, 13, 14, fault.Token)

-- a word of data at an offset that is no multiple of 4 (own)
abbrev pub MisplacedWord : Type 0
MisplacedWord = told (source (codes ".data" ++ 10 ∷ [] ++ codes ".byte 1" ++ 10 ∷ [] ++ codes ".word 1")) ≡ Err (3, 14, 19, fault.Range)

-- a missing operand (own)
abbrev pub MissingOperand : Type 0
MissingOperand = told (source (codes "mv a0,")) ≡ Err (1, 6, 6, fault.Token)

-- a number of more than 12 bits, by LUI and ADDI (own)
abbrev pub Li4095 : Type 0
Li4095 = told (source (codes "li a0, 4095")) ≡ Ok (record { entry = 0; text = (55 ∷ 21 ∷ 0 ∷ 0 ∷ 19 ∷ 5 ∷ 245 ∷ 255 ∷ []); «data» = []; bss = 0 })

-- the address of a label of data, and a jump back (own)
abbrev pub LoadAddress : Type 0
LoadAddress = told (source (codes ".data" ++ 10 ∷ [] ++ codes "x: .word 7" ++ 10 ∷ [] ++ codes ".text" ++ 10 ∷ [] ++ codes "_start: la a0, x" ++ 10 ∷ [] ++ codes "lw a1, 0(a0)" ++ 10 ∷ [] ++ codes "j _start" ++ 10 ∷ [])) ≡ Ok (record { entry = 0; text = (55 ∷ 5 ∷ 0 ∷ 0 ∷ 19 ∷ 5 ∷ 5 ∷ 1 ∷ 131 ∷ 37 ∷ 5 ∷ 0 ∷ 111 ∷ 240 ∷ 95 ∷ 255 ∷ []); «data» = (7 ∷ 0 ∷ 0 ∷ 0 ∷ []); bss = 0 })

-- nine statements, with comments, a tab and hexadecimal digits (own)
abbrev pub HelloSource : Type 0
HelloSource = told (source (codes "_start: li a0, 104 # h" ++ 10 ∷ [] ++ codes " li a7, 1" ++ 10 ∷ [] ++ codes " ecall" ++ 10 ∷ [] ++ 9 ∷ codes "li a0,0x69" ++ 10 ∷ [] ++ codes "li a7,1" ++ 10 ∷ [] ++ codes "ecall" ++ 10 ∷ [] ++ codes "li a7,0" ++ 10 ∷ [] ++ codes "li a0, -0" ++ 10 ∷ [] ++ codes "ecall" ++ 10 ∷ [])) ≡ Ok (record { entry = 0; text = (19 ∷ 5 ∷ 128 ∷ 6 ∷ 147 ∷ 8 ∷ 16 ∷ 0 ∷ 115 ∷ 0 ∷ 0 ∷ 0 ∷ 19 ∷ 5 ∷ 144 ∷ 6 ∷ 147 ∷ 8 ∷ 16 ∷ 0 ∷ 115 ∷ 0 ∷ 0 ∷ 0 ∷ 147 ∷ 8 ∷ 0 ∷ 0 ∷ 19 ∷ 5 ∷ 0 ∷ 0 ∷ 115 ∷ 0 ∷ 0 ∷ 0 ∷ []); «data» = []; bss = 0 })
