-- The source that an image is read back to.
use Rattle.std.specs.Prelude.{ℕ, ◌+◌, ◌≤◌, ◌≡◌, Bool, true, not, List, [], ◌∷◌, ◌++◌, length, flat_map, ◌==◌, if◌then◌else◌, Option, Some, None, pos, Ok, codes, nat_lt}
use Rattle.std.specs.Int.{w32, from_le_bytes}
use Rattle.std.specs.List.{concat, list_all}
use Rattle.ptk_disasm.specs.Tables.{name_text, place_text}
use Rattle.ptk_words.specs.Words.{word_of, sign_extension}
use Rattle.ptk_words.specs.Image.{ImageParts}
use Rattle.ptk_rv32i_code.specs.declared.instr.Instr.{Instr}
use Rattle.ptk_rv32i_code.specs.declared.instr.Instr.TheVariants as instr
use Rattle.ptk_rv32i_code.specs.Coding.{decoded}
use Rattle.ptk_image.specs.Images.{IsImage}
use Rattle.ptk_asm_language.specs.declared.statement.Section.TheVariants as section
use Rattle.ptk_asm_language.specs.declared.statement.Form.TheVariants as form
use Rattle.ptk_asm_language.specs.Source.{Statement, longest, source}
use Rattle.ptk_asm.specs.Emitting.{words_in}
pub use Rattle.ptk_asm.specs.Symbols.{padded_hex}
use Rattle.ptk_disasm.specs.Spelling.{Line, Entry, Stated, line_text}
use Rattle.ptk_disasm.specs.WordStatements.{bare, given, statement_for}

-- ---- comments

-- a statement with its address (own)
abbrev pub addressed : ℕ → Statement → Line
addressed at s = Stated s (padded_hex at)

-- ---- the text

-- the label of the entry, if it is here (own)
abbrev pub entry_line : ℕ → ℕ → List Line
entry_line entry at = if at == entry then Entry ∷ [] else []

-- the address that a branch or a jump which stands at an address goes to, by the distance in its word (RISC-V 2.5)
abbrev pub target_of : ℕ → Option Instr → Option ℕ
target_of at (Some (instr.Branch t rs1 rs2 bits)) = Some (word_of (at + sign_extension 13 bits))
target_of at (Some (instr.Jal rd bits)) = Some (word_of (at + sign_extension 21 bits))
target_of at i = None

-- what comes after an address in a comment: after that of a line, and after a target (own)
pub record Names : Type 0 where
  pub here : ℕ → List ℕ
  pub there : ℕ → List ℕ

-- no names: nothing comes after an address (own)
abbrev pub no_names : Names
no_names = record { here = λ a. []; there = λ a. [] }

-- the names that symbols give: after the address of a line the symbol that begins there, after a target the symbol that is nearest to it (own)
abbrev pub names_of : List (ℕ × List ℕ) → Names
names_of symbols = record { here = name_text symbols; there = place_text symbols }

-- an arrow and an address, if there is one (own)
abbrev pub target_text : Names → Option ℕ → List ℕ
target_text names None = []
target_text names (Some target) = concat (codes " -> " ∷ padded_hex target ∷ names.there target ∷ [])

-- the address of a word, its value, and the target of a branch or a jump (own)
abbrev pub word_comment : Names → ℕ → ℕ → List ℕ
word_comment names at word =
    concat (padded_hex at ∷ names.here at ∷ codes " " ∷ padded_hex word ∷ target_text names (target_of at (decoded word)) ∷ [])

-- a word of the text with its comment (own)
abbrev pub word_line : Names → ℕ → ℕ → Line
word_line names at word = Stated (statement_for word) (word_comment names at word)

-- the words of the text from an address on, with the label of the entry before its word or at the end (own)
abbrev pub text_lines : Names → ℕ → ℕ → List ℕ → List Line
text_lines names entry at [] = entry_line entry at
text_lines names entry at (word ∷ words) = entry_line entry at ++ word_line names at word ∷ text_lines names entry (at + 4) words

-- ---- the data and the zeros after it

-- bytes from an address on, one by one (own)
abbrev pub byte_lines : ℕ → List ℕ → List Line
byte_lines at [] = []
byte_lines at (b ∷ bytes) = addressed at (given form.Byte [] (pos b)) ∷ byte_lines (at + 1) bytes

-- bytes from an address on, as words and then what is left (own)
abbrev pub data_lines : ℕ → List ℕ → List Line
data_lines at (a ∷ b ∷ c ∷ d ∷ bytes) = addressed at (given form.Word [] (pos (from_le_bytes w32 (a ∷ b ∷ c ∷ d ∷ [])))) ∷ data_lines (at + 4) bytes
data_lines at bytes = byte_lines at bytes

-- the zeros, if there are some (own)
abbrev pub zero_lines : ℕ → ℕ → List Line
zero_lines at n = if n == 0 then [] else addressed at (given form.Space [] (pos n)) ∷ []

-- ---- the image

-- the section of the data, whose bytes begin at an address (own)
abbrev pub data_section : ℕ → List ℕ → List Line
data_section at bytes = addressed at (bare (form.Within section.Data) []) ∷ data_lines at bytes

-- the section of the zeros, which begin at an address (own)
abbrev pub bss_section : ℕ → ℕ → List Line
bss_section at n = addressed at (bare (form.Within section.Bss) []) ∷ zero_lines at n

-- the sections after the text (own)
abbrev pub sections_behind : ImageParts → List Line
sections_behind image =
    data_section (length image.text) image.«data» ++ bss_section (length image.text + length image.«data») image.bss

-- the lines of an image (own)
abbrev pub lines_for : Names → ImageParts → List Line
lines_for names image = text_lines names image.entry 0 (words_in image.text) ++ sections_behind image

-- lines as a text, each with its LF (own)
abbrev pub text_for : List Line → List ℕ
text_for lines = flat_map (λ l. line_text l ++ 10 ∷ []) lines

-- the source of an image, with names in its comments (own)
abbrev pub disassembled_with : Names → ImageParts → List ℕ
disassembled_with names image = text_for (lines_for names image)

-- the source of an image (own)
abbrev pub disassembled : ImageParts → List ℕ
disassembled image = disassembled_with no_names image

-- ---- the law

-- a number of 8 bits
abbrev pub is_byte : ℕ → Bool
is_byte b = nat_lt b 256

-- the sections are bytes, and no more than the language allows (own)
pub record FitsSource (image : ImageParts) : Type 0 where
  pub text_bytes : list_all is_byte image.text ≡ true
  pub data_bytes : list_all is_byte image.«data» ≡ true
  pub text : length image.text ≤ longest
  pub «data» : length image.«data» ≤ longest
  pub bss : image.bss ≤ longest

-- a character that ends no line
abbrev pub is_within_line : ℕ → Bool
is_within_line c = not (c == 10)

-- no name ends a line
pub record AreWithinLine (names : Names) : Type 0 where
  pub here : (a : ℕ) → list_all is_within_line (names.here a) ≡ true
  pub there : (a : ℕ) → list_all is_within_line (names.there a) ≡ true

-- an image that fits is read back from its source, whatever the comments call its addresses
abbrev pub ReadsBack : Names → ImageParts → Type 0
ReadsBack names image = AreWithinLine names → IsImage image → FitsSource image → source (disassembled_with names image) ≡ Ok image
