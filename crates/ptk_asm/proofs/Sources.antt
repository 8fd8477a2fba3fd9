-- What both passes come to.
use Rattle.std.proofs.Common.{◌≡◌, ℕ, ◌%◌, ◌≤◌, List, [], ◌∷◌, length, map, Option, Some, None, refl, sym, ap, subst, ◌∙◌}
use Rattle.std.specs.Prelude.{Result, Ok, Err, slice_index_or}
use Rattle.std.specs.List.{All}
use Rattle.ptk_words.specs.Image.{ImageParts}
use Rattle.ptk_asm_language.specs.declared.statement.Section.TheVariants as section
use Rattle.ptk_asm_language.specs.declared.fault.FaultKind.{FaultKind}
use Rattle.ptk_asm_language.specs.Lines.{raw_lines}
use Rattle.ptk_asm_language.specs.Source.{Layout, Fault, Placed, layout_of, line_fault, line_place, at_line, first_pass, second_pass, span_after, lengths_after, length_in, labels_after, placed_after, contents_of, entry_of, image_of, unless, linked, source}
use Rattle.ptk_rv32i_code.specs.Coding.{decoded}
use Rattle.ptk_asm.specs.Emitting.{words_in}
use Rattle.ptk_asm.specs.Whole.{IsWhole}
use Rattle.ptk_asm.specs.Laws.{IsWholeImage, TextsAreWhole, LengthsAreCounted, StandsAt, StatementsStand, IsDecoded, IsDecodedThere, WordsDecode}
use Rattle.ptk_asm.proofs.Whole.{whole-none, whole-line}
use Rattle.ptk_asm.proofs.Lengths.{text-length, section-length}
use Rattle.ptk_asm.proofs.Offsets.{stands-all}

-- ---- the first pass

-- a layout that is that of whole lines (own)
abbrev FromWhole : Layout → Type 0
FromWhole l = (all : List (List ℕ)) × ((layout_of all ≡ l) × IsWhole all)

-- the layout of a first pass, that of no lines for a fault (own)
abbrev layout_shown : Result Layout Fault → Layout
layout_shown (Ok l) = l
layout_shown (Err f) = layout_of []

-- the layout of a first pass without a fault is that of whole lines
passed : (lines before : List (List ℕ)) (l : Layout) → first_pass before lines ≡ Ok l → IsWhole before → FromWhole l
passed [] before l e whole = (before, (ap layout_shown e, whole))
passed (line ∷ lines) before l e whole = by_fault (passed lines (line ∷ before) l) (line_fault before line) refl
  where
    by_fault : (first_pass (line ∷ before) lines ≡ Ok l → IsWhole (line ∷ before) → FromWhole l) → (found : Option FaultKind) → line_fault before line ≡ found → FromWhole l
    by_fault later None is =
        later (sym (ap (λ (o : Option FaultKind). at_line (span_after before line) (line_place before line) o (first_pass (line ∷ before) lines)) is) ∙ e) (whole-line before line is whole)
    by_fault later (Some k) is =
        let never : ◌≡◌ {A = Result Layout Fault} (Err (record { span = span_after before line; place = line_place before line; kind = k })) (Ok l) =
        sym (ap (λ (o : Option FaultKind). at_line (span_after before line) (line_place before line) o (first_pass (line ∷ before) lines)) is) ∙ e in
        absurd (cc)

passed-all : (text : List ℕ) (l : Layout) → first_pass [] (raw_lines text) ≡ Ok l → FromWhole l
passed-all text l e = passed (raw_lines text) [] l e whole-none

pub lengths-counted : (text : List ℕ) → LengthsAreCounted text
lengths-counted text l e at =
    let from = passed-all text l e in
    subst (λ (m : Layout). length (contents_of m at m.placed) ≡ length_in m.lengths at) from.1.0 (section-length (layout_of from.0) at from.0)

pub statements-stand : (text : List ℕ) → StatementsStand text
statements-stand text l e =
    let from = passed-all text l e in
    subst (λ (m : Layout). All (StandsAt m m.placed) m.placed) from.1.0 (stands-all (layout_of from.0) from.0)

-- the words of a statement decode where it stands
decodes-there : (l : Layout) (p : Placed) → StandsAt l l.placed p → IsDecoded l p → IsDecodedThere l p
decodes-there l p stands decodes other = ap (λ (bytes : List ℕ). map decoded (words_in bytes)) stands ∙ decodes other

-- where the words of each statement decode, they decode where it stands
pub words-decode : (text : List ℕ) (known : Layout) → first_pass [] (raw_lines text) ≡ Ok known → All (IsDecoded known) known.placed → WordsDecode text
words-decode text known first decode l e k d lt =
    let same : known ≡ l = ap layout_shown (sym first ∙ e) in
    let all : All (IsDecoded l) l.placed = subst (λ (m : Layout). All (IsDecoded m) m.placed) same decode in
    decodes-there l (slice_index_or l.placed k d) (statements-stand text l e k d lt) (all k d lt)

-- ---- the image

image-whole : (all : List (List ℕ)) → IsWhole all → IsWholeImage (image_of (layout_of all))
image-whole all whole =
    let e : length (contents_of (layout_of all) section.Text (placed_after all)) ≡ (lengths_after all).text = text-length (layout_of all) all in
    (subst (λ (n : ℕ). n % 4 ≡ 0) (sym e) whole.text, (whole.entry, subst (λ (n : ℕ). entry_of (labels_after all) ≤ n) (sym e) whole.inside))

-- an image, an empty one for a fault (own)
abbrev image_shown : Result ImageParts Fault → ImageParts
image_shown (Ok i) = i
image_shown (Err f) = image_of (layout_of [])

pub texts-whole : (text : List ℕ) → TextsAreWhole text
texts-whole text image e = by_pass (first_pass [] (raw_lines text)) refl
  where
    by_second : (l : Layout) → first_pass [] (raw_lines text) ≡ Ok l → (found : Option Fault) → second_pass l l.placed ≡ found → IsWholeImage image
    by_second l first None is =
        let whole_layout : source text ≡ unless (second_pass l l.placed) (image_of l) = ap linked first in
        let same : Ok (image_of l) ≡ Ok image = sym (whole_layout ∙ ap (λ (o : Option Fault). unless o (image_of l)) is) ∙ e in
        let from = passed-all text l first in
        subst IsWholeImage (ap image_of from.1.0 ∙ ap image_shown same) (image-whole from.0 from.1.1)
    by_second l first (Some f) is =
        let whole_layout : source text ≡ unless (second_pass l l.placed) (image_of l) = ap linked first in
        let never : ◌≡◌ {A = Result ImageParts Fault} (Err f) (Ok image) = sym (whole_layout ∙ ap (λ (o : Option Fault). unless o (image_of l)) is) ∙ e in
        absurd (cc)

    by_pass : (found : Result Layout Fault) → first_pass [] (raw_lines text) ≡ found → IsWholeImage image
    by_pass (Ok l) first = by_second l first (second_pass l l.placed) refl
    by_pass (Err f) first = let never : ◌≡◌ {A = Result ImageParts Fault} (Err f) (Ok image) = sym (ap linked first) ∙ e in absurd (cc)
