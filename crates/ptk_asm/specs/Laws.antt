-- What holds of every source.
use Rattle.std.specs.Prelude.{ℕ, ◌≡◌, ◌%◌, ◌≤◌, List, [], length, take, drop, Ok, map, Some, false}
use Rattle.std.specs.List.{All}
use Rattle.ptk_words.specs.Image.{ImageParts}
use Rattle.ptk_asm_language.specs.declared.statement.Section.{Section}
use Rattle.ptk_asm_language.specs.Lines.{raw_lines}
use Rattle.ptk_asm_language.specs.Source.{Layout, Placed, first_pass, source, length_in, number_of, placed_bytes, contents_of}
use Rattle.ptk_asm_language.specs.Statements.{instructions_of}
use Rattle.ptk_rv32i_code.specs.declared.instr.Instr.{Instr}
use Rattle.ptk_rv32i_code.specs.Coding.{decoded}
use Rattle.ptk_asm.specs.Emitting.{words_in, writes_data, DecodesToWritten}

-- an image whose text is whole words, and whose entry is the offset of one of them, or the text's end
abbrev pub IsWholeImage : ImageParts → Type 0
IsWholeImage image = (length image.text % 4 ≡ 0) × ((image.entry % 4 ≡ 0) × (image.entry ≤ length image.text))

-- the image of a source is such a one
abbrev pub TextsAreWhole : List ℕ → Type 0
TextsAreWhole text = (image : ImageParts) → source text ≡ Ok image → IsWholeImage image

-- the bytes of each section are as many as the first pass counts
abbrev pub LengthsAreCounted : List ℕ → Type 0
LengthsAreCounted text =
    (l : Layout) → first_pass [] (raw_lines text) ≡ Ok l → (at : Section) → length (contents_of l at l.placed) ≡ length_in l.lengths at

-- the bytes of a statement are those of its section at its offset
abbrev pub StandsAt : Layout → List Placed → Placed → Type 0
StandsAt l ps p = take (length (placed_bytes l p)) (drop p.place.offset (contents_of l p.place.section ps)) ≡ placed_bytes l p

-- each statement of a source stands there
abbrev pub StatementsStand : List ℕ → Type 0
StatementsStand text = (l : Layout) → first_pass [] (raw_lines text) ≡ Ok l → All (StandsAt l l.placed) l.placed

-- the instructions of a statement (RISC-V 2.4 to 2.8, 25)
abbrev pub instructions_at : Layout → Placed → List Instr
instructions_at l p = instructions_of p.statement.form p.statement.operands.registers (number_of l p p.statement.operands.value)

-- the words of a statement's bytes decode to its instructions, unless it is a directive that writes bytes (RISC-V 2.2)
abbrev pub IsDecoded : Layout → Placed → Type 0
IsDecoded l p =
    writes_data p.statement.form ≡ false → DecodesToWritten p.statement.form p.statement.operands.registers (number_of l p p.statement.operands.value)

-- the bytes that stand where a statement stands
abbrev pub bytes_there : Layout → Placed → List ℕ
bytes_there l p = take (length (placed_bytes l p)) (drop p.place.offset (contents_of l p.place.section l.placed))

-- the words that stand where a statement stands decode to its instructions, unless it is a directive that writes bytes (RISC-V 2.2)
abbrev pub IsDecodedThere : Layout → Placed → Type 0
IsDecodedThere l p = writes_data p.statement.form ≡ false → map decoded (words_in (bytes_there l p)) ≡ map Some (instructions_at l p)

-- the words that are where a statement of a source is decode to its instructions, for each that writes no data (RISC-V 2.2)
abbrev pub WordsDecode : List ℕ → Type 0
WordsDecode text = (l : Layout) → first_pass [] (raw_lines text) ≡ Ok l → All (IsDecodedThere l) l.placed
