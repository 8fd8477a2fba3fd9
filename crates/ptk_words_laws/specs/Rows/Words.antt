-- Words of the instruction table, and words outside it.
use Rattle.std.specs.Prelude.{◌≡◌, ℕ, List, [], ◌∷◌, map, length, Option, Some, None, option_map}
use Rattle.ptk_words_model.specs.Instructions.{Name, Lui, Jal, Jalr, Addi, Lw, Lbu, Ecall, Ebreak, Fence, IType, JType, instruction_table, decode_of, immediate_of}

-- the names of words (RISC-V 24)
abbrev pub names : List ℕ → List (Option Name)
names words = map (λ word. option_map (λ r. r.name) (decode_of word)) words

-- the table has 40 rows; some words are of its rows, others have upper bits that no row has; immediates are copied upward (RISC-V 2.3, 24)
pub record DecodedWords : Type 0 where
  pub rows : length instruction_table ≡ 40
  pub inside : names (0x000012b7 ∷ 0x00100893 ∷ 0xfff2c503 ∷ 0xffe2a503 ∷ 0x00008067 ∷ 0xff5ff06f ∷ 0x0ff0000f ∷ 0x00000073 ∷ 0x00100073 ∷ []) ≡ Some Lui ∷ Some Addi ∷ Some Lbu ∷ Some Lw ∷ Some Jalr ∷ Some Jal ∷ Some Fence ∷ Some Ecall ∷ Some Ebreak ∷ []
  pub outside : names (0x00000000 ∷ 0xffffffff ∷ 0x02000033 ∷ 0x00200073 ∷ 0x40001033 ∷ []) ≡ None ∷ None ∷ None ∷ None ∷ None ∷ []
  pub immediates : map (immediate_of IType) (0x00100893 ∷ 0xfff2c503 ∷ []) ≡ 1 ∷ 0xffffffff ∷ []
  pub jump : immediate_of JType 0xff5ff06f ≡ 0xfffffff4
