-- The lengths of an image, and its words.
use Rattle.std.proofs.Common.{◌≡◌, ℕ, List, map, length, sym, ap, subst, ◌∙◌}
use Rattle.ptk_asm_language.specs.declared.statement.Section.TheVariants as part
use Rattle.ptk_asm_language.specs.declared.place.Lengths.{Lengths}
use Rattle.ptk_asm_language.specs.Source.{Layout, Placed, contents_of, layout_of}
use Rattle.ptk_asm.specs.declared.layout.Layout as code
use Rattle.ptk_asm.specs.Passing.{Shows, Names, IsLaidOut, state_after, shown_placed}
use Rattle.ptk_asm.specs.Laws.{IsDecoded, WordsDecode}
use Rattle.ptk_asm.proofs.Lengths.{text-length, data-length}
use Rattle.ptk_asm.proofs.Sources.{words-decode}
use Rattle.std.specs.List.{All}

pub names-after : (l : code.Layout) (before : List (List ℕ)) → Shows l (state_after before) → Names l (layout_of before)
names-after l before h = record { lengths = h.lengths; labels = h.labels }

-- the text is as long as the first pass says
pub text_length : (l : code.Layout) (before : List (List ℕ)) (text : List ℕ) → Shows l (state_after before)
    → ((known : Layout) → Names l known → text ≡ contents_of known part.Text (map shown_placed l.placed.items)) → length text ≡ l.lengths.text
text_length l before text h e =
    ap length (e (layout_of before) (names-after l before h) ∙ ap (λ (ps : List Placed). contents_of (layout_of before) part.Text ps) h.placed)
    ∙ text-length (layout_of before) before ∙ sym (ap (λ (n : Lengths). n.text) h.lengths)

-- the data too
pub data_length : (l : code.Layout) (before : List (List ℕ)) (contents : List ℕ) → Shows l (state_after before)
    → ((known : Layout) → Names l known → contents ≡ contents_of known part.Data (map shown_placed l.placed.items)) → length contents ≡ l.lengths.«data»
data_length l before contents h e =
    ap length (e (layout_of before) (names-after l before h) ∙ ap (λ (ps : List Placed). contents_of (layout_of before) part.Data ps) h.placed)
    ∙ data-length (layout_of before) before ∙ sym (ap (λ (n : Lengths). n.«data») h.lengths)

-- the words of the statements, where those of the code's list decode
pub words_there : (l : code.Layout) (text : List ℕ) → IsLaidOut text l → ((known : Layout) → Names l known → All (IsDecoded known) (map shown_placed l.placed.items)) → WordsDecode text
words_there l text laid decode =
    let before = laid.0 in
    words-decode text (layout_of before) laid.1.1
    (subst (All (IsDecoded (layout_of before))) laid.1.0.shows.placed (decode (layout_of before) (names-after l before laid.1.0.shows)))
