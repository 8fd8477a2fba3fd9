-- The source of an image gives the image back.
use Rattle.std.proofs.Common.{◌≡◌, ℕ, ◌+◌, ◌*◌, ◌%◌, ◌^◌, ◌<◌, ◌≤◌, true, List, [], ◌∷◌, ◌++◌, length, map, Option, Ok, refl, sym, ap, ◌∙◌, arith, append_assoc, replicate}
use Rattle.std.specs.List.{list_all}
use Rattle.std.specs.Int.{w32, from_le_bytes}
use Rattle.std.proofs.lemmas.List.{append-nil}
use Rattle.std.proofs.lemmas.Bool.Decides.{nat_tests}
use Rattle.std.proofs.lemmas.Bool.{and_parts}
use Rattle.ptk_words.specs.Image.{ImageParts}
use Rattle.ptk_image.specs.Images.{IsImage}
use Rattle.ptk_asm_language.specs.declared.statement.Section.{Section}
use Rattle.ptk_asm_language.specs.declared.statement.Section.TheVariants as section
use Rattle.ptk_asm_language.specs.declared.statement.Form.TheVariants as form
use Rattle.ptk_asm_language.specs.declared.place.Lengths.{Lengths}
use Rattle.ptk_asm_language.specs.Lines.{raw_lines}
use Rattle.ptk_asm_language.specs.Source.{Layout, Fault, longest, layout_of, first_pass, placed_after, lengths_after, contents_of, entry_of, image_of, unless, linked, source}
use Rattle.ptk_asm.specs.Emitting.{words_in}
use Rattle.ptk_disasm.specs.Spelling.{Line, line_text}
use Rattle.ptk_disasm.specs.WordStatements.{bare}
use Rattle.ptk_disasm.specs.Disassembly.{Names, AreWithinLine, addressed, text_lines, data_lines, zero_lines, lines_for, text_for, is_byte, FitsSource, ReadsBack}
use Rattle.ptk_disasm.proofs.Quiet.{raw_lines-first}
use Rattle.ptk_disasm.proofs.Bytes.{small, four_bytes, four_below}
use Rattle.ptk_disasm.proofs.Steps.{raw, Stands}
use Rattle.ptk_disasm.proofs.Passes.{Reaches, is_clean, reaches-more}
use Rattle.ptk_disasm.proofs.Segments.{lens, parts, reaches-same, start, is_word, bytes_for}
use Rattle.ptk_disasm.proofs.Texts.{text-reached}
use Rattle.ptk_disasm.proofs.Datas.{data-begun, data-reached, zeros-begun, zeros-reached}

-- ---- lines

lines_raw : (lines : List Line) → list_all is_clean lines ≡ true → raw_lines (text_for lines) ≡ map raw lines
lines_raw [] h = refl
lines_raw (l ∷ ls) h =
    let facts = and_parts (is_clean l) (list_all is_clean ls) h in
    ap raw_lines (append_assoc (line_text l) (10 ∷ []) (text_for ls))
    ∙ raw_lines-first (line_text l) (text_for ls) facts.0
    ∙ ap (λ (rest : List (List ℕ)). raw l ∷ rest) (lines_raw ls facts.1)

-- ---- words

-- whole words of bytes
record IsWords (bytes : List ℕ) : Type 0 where
  words : list_all is_word (words_in bytes) ≡ true
  bytes_same : bytes_for (words_in bytes) ≡ bytes
  long : 4 * length (words_in bytes) ≡ length bytes

word_test : (w : ℕ) → w < 2 ^ 32 → is_word w ≡ true
word_test w h = grind (arith, nat_tests)

words_whole : (bytes : List ℕ) → list_all is_byte bytes ≡ true → length bytes % 4 ≡ 0 → IsWords bytes
words_whole [] all whole = record { words = refl; bytes_same = refl; long = refl }
words_whole (a ∷ []) all whole = absurd (omega (arith, whole))
words_whole (a ∷ b ∷ []) all whole = absurd (omega (arith, whole))
words_whole (a ∷ b ∷ c ∷ []) all whole = absurd (omega (arith, whole))
words_whole (a ∷ b ∷ c ∷ d ∷ more) all whole =
    let one = and_parts (is_byte a) (list_all is_byte (b ∷ c ∷ d ∷ more)) all in
    let two = and_parts (is_byte b) (list_all is_byte (c ∷ d ∷ more)) one.1 in
    let three = and_parts (is_byte c) (list_all is_byte (d ∷ more)) two.1 in
    let four = and_parts (is_byte d) (list_all is_byte more) three.1 in
    let later = words_whole more four.1 (omega (arith, whole)) in
    let long : 4 * length (words_in more) ≡ length more = later.long in
    let first : is_word (from_le_bytes w32 (a ∷ b ∷ c ∷ d ∷ [])) ≡ true = word_test (from_le_bytes w32 (a ∷ b ∷ c ∷ d ∷ [])) (four_below a b c d (small a one.0) (small b two.0) (small c three.0) (small d four.0)) in
    record {
      words = rw first later.words;
      bytes_same = ap (λ (front : List ℕ). front ++ bytes_for (words_in more)) (four_bytes a b c d (small a one.0) (small b two.0) (small c three.0) (small d four.0))
          ∙ ap (λ (rest : List ℕ). a ∷ b ∷ c ∷ d ∷ rest) later.bytes_same;
      long = omega (arith, long);
    }

-- ---- both passes

none_stand : Stands [] section.Text (lens 0 0 0) [] (parts [] [] [])
none_stand = record { turned = refl; counted = refl; labelled = refl; contents = none_held; known = λ l. refl }
  where
    none_held : (l : Layout) (s : Section) → contents_of l s [] ≡ parts [] [] [] s
    none_held l section.Text = refl
    none_held l section.Data = refl
    none_held l section.Bss = refl

image_same : (after : List (List ℕ)) (at : Section) (image : ImageParts) (z : List ℕ) → Stands after at (lens (length image.text) (length image.«data») image.bss) (start image.entry) (parts image.text image.«data» z) → image_of (layout_of after) ≡ image
image_same after at image z stands =
    ap (λ (e : ℕ). record { entry = e; text = contents_of (layout_of after) section.Text (placed_after after); «data» = contents_of (layout_of after) section.Data (placed_after after); bss = (lengths_after after).bss }) (ap entry_of stands.labelled)
    ∙ ap (λ (t : List ℕ). record { entry = image.entry; text = t; «data» = contents_of (layout_of after) section.Data (placed_after after); bss = (lengths_after after).bss }) (stands.contents (layout_of after) section.Text)
    ∙ ap (λ (d : List ℕ). record { entry = image.entry; text = image.text; «data» = d; bss = (lengths_after after).bss }) (stands.contents (layout_of after) section.Data)
    ∙ ap (λ (n : Lengths). record { entry = image.entry; text = image.text; «data» = image.«data»; bss = n.bss }) stands.counted

linked_same : (after : List (List ℕ)) (at : Section) (image : ImageParts) (z : List ℕ) → Stands after at (lens (length image.text) (length image.«data») image.bss) (start image.entry) (parts image.text image.«data» z)
    → linked (Ok (layout_of after)) ≡ Ok image
linked_same after at image z stands =
    ap (λ (f : Option Fault). unless f (image_of (layout_of after))) (stands.known (layout_of after))
    ∙ ap Ok (image_same after at image z stands)

source_same : (lines : List Line) (at : Section) (image : ImageParts) (z : List ℕ) → Reaches lines [] at (lens (length image.text) (length image.«data») image.bss) (start image.entry) (parts image.text image.«data» z) → source (text_for lines) ≡ Ok image
source_same lines at image z r =
    ap (λ (ls : List (List ℕ)). linked (first_pass [] ls)) (lines_raw lines r.clean ∙ sym (append-nil (map raw lines)))
    ∙ ap linked (r.passed [])
    ∙ linked_same r.after at image z r.stands

-- ---- the lines of an image

same_text : (words t : List ℕ) (s : Section) → bytes_for words ≡ t → parts (bytes_for words) [] [] s ≡ parts t [] [] s
same_text words t section.Text e = e
same_text words t section.Data e = refl
same_text words t section.Bss e = refl

none_before : (n : ℕ) → 0 + n ≡ n
none_before n = omega arith

all_lines : (names : Names) (within : AreWithinLine names) (image : ImageParts) → IsImage image → FitsSource image
    → Reaches (lines_for names image) [] section.Bss (lens (length image.text) (length image.«data») image.bss) (start image.entry) (parts image.text image.«data» (replicate image.bss 0))
all_lines names within image is fits =
    let t : ℕ = length image.text in
    let d : ℕ = length image.«data» in
    let words = words_whole image.text fits.text_bytes is.whole in
    let long : 4 * length (words_in image.text) ≡ length image.text = words.long in
    let inside : image.entry ≤ length image.text = is.inside in
    let room : length image.text ≤ longest = fits.text in
    let texts = reaches-same (text_lines names image.entry 0 (words_in image.text)) [] section.Text section.Text (lens (0 + 4 * length (words_in image.text)) 0 0) (lens t 0 0) (start image.entry)
    (parts ([] ++ bytes_for (words_in image.text)) [] []) (parts image.text [] []) refl (ap (λ (k : ℕ). lens k 0 0) (omega (arith, long))) (λ s. same_text (words_in image.text) image.text s words.bytes_same)
    (text-reached names within image.entry 0 [] (words_in image.text) [] (omega arith) (omega (arith, long, inside)) refl is.aligned words.words (omega (arith, long, room)) none_stand) in
    let turned = data-begun t t image.text texts.after (start image.entry) room texts.stands in
    let more : length image.«data» ≤ longest = fits.«data» in
    let datas = reaches-same (data_lines t image.«data») turned.after section.Data section.Data (lens t (0 + d) 0) (lens t d 0) (start image.entry)
    (parts image.text image.«data» []) (parts image.text image.«data» []) refl (ap (λ (k : ℕ). lens t k 0) (none_before d)) (λ s. refl)
    (data-reached t t 0 image.text [] image.«data» turned.after (start image.entry) fits.data_bytes refl (omega (arith, more)) turned.stands) in
    let last = zeros-begun (t + d) t d image.text image.«data» datas.after (start image.entry) fits.«data» datas.stands in
    let zeros = zeros-reached (t + d) t d image.bss image.text image.«data» last.after (start image.entry) fits.bss last.stands in
    reaches-more (text_lines names image.entry 0 (words_in image.text)) _ [] section.Text section.Bss (lens t 0 0) (lens t d image.bss) (start image.entry) (start image.entry) (parts image.text [] []) (parts image.text image.«data» (replicate image.bss 0)) texts
    (reaches-more (addressed t (bare (form.Within section.Data) []) ∷ []) _ texts.after section.Data section.Bss (lens t 0 0) (lens t d image.bss) (start image.entry) (start image.entry) (parts image.text [] []) (parts image.text image.«data» (replicate image.bss 0)) turned
    (reaches-more (data_lines t image.«data») _ turned.after section.Data section.Bss (lens t d 0) (lens t d image.bss) (start image.entry) (start image.entry) (parts image.text image.«data» []) (parts image.text image.«data» (replicate image.bss 0)) datas
    (reaches-more (addressed (t + d) (bare (form.Within section.Bss) []) ∷ []) (zero_lines (t + d) image.bss) datas.after section.Bss section.Bss (lens t d 0) (lens t d image.bss) (start image.entry) (start image.entry) (parts image.text image.«data» []) (parts image.text image.«data» (replicate image.bss 0)) last zeros)))

pub read-back : (names : Names) (image : ImageParts) → ReadsBack names image
read-back names image within is fits = source_same (lines_for names image) section.Bss image (replicate image.bss 0) (all_lines names within image is fits)
