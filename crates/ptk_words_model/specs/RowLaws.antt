-- What is said of the instruction table as a whole.
use Rattle.std.specs.Prelude.{◌≡◌, ℕ, AllPairs, IsTrue, IsFalse}
use Rattle.ptk_words_model.specs.Instructions.{agrees, decode_of, instruction_table}
use Rattle.ptk_words_model.specs.Fields.{row_by_fields}

-- of two rows at different places, no word agrees with both (RISC-V 24)
abbrev pub NoWordAgreesTwice : Type 0
NoWordAgreesTwice = AllPairs (λ a b. (word : ℕ) → IsTrue (agrees word a) → IsFalse (agrees word b)) instruction_table

-- every word has by its fields the row that it has under the masks (RISC-V 2.2, 24)
abbrev pub RowsByFields : Type 0
RowsByFields = (word : ℕ) → decode_of word ≡ row_by_fields word
