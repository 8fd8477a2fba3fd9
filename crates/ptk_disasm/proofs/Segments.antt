-- The lines of the text, of the data and of the zeros are passed.
use Rattle.std.proofs.Common.{◌≡◌, ℕ, ◌+◌, ◌*◌, ◌^◌, ◌<◌, ◌≤◌, Bool, true, false, List, [], ◌∷◌, ◌++◌, length, Option, Some, None, refl, sym, ap, subst, ◌∙◌, arith, append_assoc, ◌==◌, nat_lt}
use Rattle.std.specs.Prelude.{flat_map, codes}
use Rattle.std.specs.List.{list_all}
use Rattle.std.specs.Int.{w32, to_le_bytes}
use Rattle.std.proofs.lemmas.List.{append-nil}
use Rattle.std.proofs.lemmas.Bool.Decides.{nat_tests}
use Rattle.std.proofs.lemmas.Bool.{and_parts}
use Rattle.ptk_asm_language.specs.declared.statement.Section.{Section}
use Rattle.ptk_asm_language.specs.declared.statement.Section.TheVariants as section
use Rattle.ptk_asm_language.specs.declared.statement.Form.{Form}
use Rattle.ptk_asm_language.specs.declared.statement.Form.TheVariants as form
use Rattle.ptk_asm_language.specs.declared.fault.FaultKind.{FaultKind}
use Rattle.ptk_asm_language.specs.declared.place.Place.{Place}
use Rattle.ptk_asm_language.specs.declared.place.Lengths.{Lengths}
use Rattle.ptk_asm_language.specs.Tokens.{is_run, is_first, is_letter, is_digit, is_blank, is_mark, digit, digit_of, tokens_of}
use Rattle.ptk_asm_language.specs.Lines.{code_of}
use Rattle.ptk_asm_language.specs.Statements.{Value, size_of}
use Rattle.ptk_asm_language.specs.Source.{Statement, longest, label_of, statement_of, turned_by, turned_to, section_after, grown, grown_by, taken, lengths_after, place_after, place_in, with_label, labels_after, placed_at, placed_after, tokens_fault, line_fault, line_place, last_of, at_line, span_after, first_pass, second_pass, contents_of}
use Rattle.ptk_disasm.specs.Spelling.{Line, Entry}
use Rattle.ptk_disasm.specs.WordStatements.{statement_for}
use Rattle.ptk_disasm.proofs.Hexadecimal.{word-comment}
use Rattle.ptk_disasm.specs.Disassembly.{Names, AreWithinLine, word_comment, word_line, text_lines}
use Rattle.ptk_disasm.proofs.WordsWritten.{Writes, word-written}
use Rattle.ptk_disasm.proofs.Steps.{raw, Stands, added}
use Rattle.ptk_disasm.proofs.Passes.{Reaches, held-same, reaches-none, reaches-more, reaches-stated}

-- how many bytes each section has
abbrev pub lens : ℕ → ℕ → ℕ → Lengths
lens t d b = record { text = t; «data» = d; bss = b }

-- the bytes of each section
abbrev pub parts : List ℕ → List ℕ → List ℕ → Section → List ℕ
parts t d z section.Text = t
parts t d z section.Data = d
parts t d z section.Bss = z

pub reaches-same : (lines : List Line) (before : List (List ℕ)) (at to : Section) (n m : Lengths) (labels : List (List ℕ × Place)) (h k : Section → List ℕ)
    → at ≡ to → n ≡ m → ((s : Section) → h s ≡ k s) → Reaches lines before at n labels h → Reaches lines before to m labels k
reaches-same lines before at to n m labels h k e f same r =
    subst (λ (s : Section). Reaches lines before s m labels k) e
    (record { after = r.after; stands = held-same r.after at n m labels h k f same r.stands; passed = r.passed; clean = r.clean })

-- ---- a word of the text

stays : (f : Form) (v : Value) (at : Section) → size_of f v ≡ 4 → turned_by at f ≡ at
stays (form.Within s) v at h = absurd (cc)
stays f v at h = refl

has_room : (n m k : ℕ) → m ≡ 4 → n + 4 ≤ k → nat_lt k (n + m) ≡ false
has_room n m k e h = grind (arith, nat_tests)

word_held : (t : List ℕ) (s : Statement) (word : ℕ) → Writes s word → (here : Section) → parts t [] [] here ++ added section.Text s here ≡ parts (t ++ to_le_bytes w32 word) [] [] here
word_held t s word writes section.Text = ap (λ (b : List ℕ). t ++ b) writes.written
word_held t s word writes section.Data = refl
word_held t s word writes section.Bss = refl

grown_text : (n m : ℕ) → m ≡ 4 → grown (lens n 0 0) section.Text m ≡ lens (n + 4) 0 0
grown_text n m e = ap (λ (k : ℕ). lens (n + k) 0 0) e

pub word-reached : (names : Names) (within : AreWithinLine names) (at n word : ℕ) (t : List ℕ) (before : List (List ℕ)) (labels : List (List ℕ × Place)) → word < 2 ^ 32 → n + 4 ≤ longest
    → Stands before section.Text (lens n 0 0) labels (parts t [] []) → Reaches (word_line names at word ∷ []) before section.Text (lens (n + 4) 0 0) labels (parts (t ++ to_le_bytes w32 word) [] [])
word-reached names within at n word t before labels h room stands =
    let s : Statement = statement_for word in
    let writes : Writes s word = word-written word h in
    reaches-same (word_line names at word ∷ []) before (turned_by section.Text s.form) section.Text (grown (lens n 0 0) section.Text (taken s)) (lens (n + 4) 0 0) labels
    (λ here. parts t [] [] here ++ added section.Text s here) (parts (t ++ to_le_bytes w32 word) [] [])
    (stays s.form s.operands.value section.Text writes.size) (grown_text n (taken s) writes.size) (word_held t s word writes)
    (reaches-stated before section.Text (lens n 0 0) labels (parts t [] []) stands s writes.spelled (word_comment names at word) (word-comment names within at word) writes.no_label writes.stands (has_room n (taken s) longest writes.size room))

-- ---- the label of the entry

entry_statement : statement_of (raw Entry) ≡ None
unfolding is_run is_first is_letter is_digit is_blank is_mark digit digit_of
entry_statement = refl

entry_label : label_of (raw Entry) ≡ Some (codes "_start")
unfolding is_run is_first is_letter is_digit is_blank is_mark digit digit_of
entry_label = refl

entry_clean : (at : Place) → tokens_fault [] at (tokens_of (code_of (raw Entry))) ≡ None
unfolding is_run is_first is_letter is_digit is_blank is_mark digit digit_of
entry_clean at = refl

-- the label of the entry alone
abbrev pub start : ℕ → List (List ℕ × Place)
start n = (codes "_start", record { section = section.Text; offset = n }) ∷ []

pub entry-reached : (n : ℕ) (before : List (List ℕ)) (h : Section → List ℕ) → Stands before section.Text (lens n 0 0) [] h → Reaches (Entry ∷ []) before section.Text (lens n 0 0) (start n) h
entry-reached n before h stands =
    let line : List ℕ = raw Entry in
    let same : placed_after (line ∷ before) ≡ placed_after before =
    ap (λ (o : Option Statement). placed_after before ++ placed_at (span_after before line) (place_after before) (last_of line) o) entry_statement ∙ append-nil (placed_after before) in
    let clean : line_fault before line ≡ None =
    ap (λ (ls : List (List ℕ × Place)). tokens_fault ls (place_after before) (tokens_of (code_of line))) stands.labelled ∙ entry_clean (place_after before) in
    record {
      after = line ∷ before;
      stands = record {
        turned = ap (turned_to (section_after before)) entry_statement ∙ stands.turned;
        counted = ap (grown_by (lengths_after before) (section_after before)) entry_statement ∙ stands.counted;
        labelled = ap (λ (o : Option (List ℕ)). with_label o (place_after before) (labels_after before)) entry_label
            ∙ ap (λ (ls : List (List ℕ × Place)). (codes "_start", place_after before) ∷ ls) stands.labelled
            ∙ ap (λ (p : Place). (codes "_start", p) ∷ []) (ap (place_in (lengths_after before)) stands.turned ∙ ap (λ (x : Lengths). place_in x section.Text) stands.counted);
        contents = λ l s. ap (contents_of l s) same ∙ stands.contents l s;
        known = λ l. ap (second_pass l) same ∙ stands.known l;
      };
      passed = λ more. ap (λ (o : Option FaultKind). at_line (span_after before line) (line_place before line) o (first_pass (line ∷ before) more)) clean;
      clean = refl;
    }

-- ---- the words of the text

-- a number of 32 bits
abbrev pub is_word : ℕ → Bool
is_word w = nat_lt w (2 ^ 32)

pub word_below : (w : ℕ) → is_word w ≡ true → w < 2 ^ 32
word_below w h = grind (arith, nat_tests)

other : (a b : ℕ) → b < a → (a == b) ≡ false
other a b h = grind (arith, nat_tests)

-- the bytes of words
abbrev pub bytes_for : List ℕ → List ℕ
bytes_for words = flat_map (to_le_bytes w32) words

-- behind the entry
pub words-behind : (names : Names) (within : AreWithinLine names) (entry at n : ℕ) (t words : List ℕ) (before : List (List ℕ)) (labels : List (List ℕ × Place)) → entry < at → list_all is_word words ≡ true → n + 4 * length words ≤ longest
    → Stands before section.Text (lens n 0 0) labels (parts t [] [])
    → Reaches (text_lines names entry at words) before section.Text (lens (n + 4 * length words) 0 0) labels (parts (t ++ bytes_for words) [] [])
words-behind names within entry at n t [] before labels past all room stands =
    rw (other at entry past)
    (reaches-none before section.Text (lens (n + 0) 0 0) labels (parts (t ++ []) [] [])
    (held-same before section.Text (lens n 0 0) (lens (n + 0) 0 0) labels (parts t [] []) (parts (t ++ []) [] []) (ap (λ (k : ℕ). lens k 0 0) (omega arith)) (ended t) stands))
  where
    ended : (t : List ℕ) (s : Section) → parts t [] [] s ≡ parts (t ++ []) [] [] s
    ended t section.Text = sym (append-nil t)
    ended t section.Data = refl
    ended t section.Bss = refl
words-behind names within entry at n t (w ∷ ws) before labels past all room stands =
    let facts = and_parts (is_word w) (list_all is_word ws) all in
    let first = word-reached names within at n w t before labels (word_below w facts.0) (omega (arith, room)) stands in
    let later = words-behind names within entry (at + 4) (n + 4) (t ++ to_le_bytes w32 w) ws first.after labels (omega (arith, past)) facts.1 (omega (arith, room)) first.stands in
    rw (other at entry past)
    (reaches-same (word_line names at w ∷ text_lines names entry (at + 4) ws) before section.Text section.Text (lens ((n + 4) + 4 * length ws) 0 0) (lens (n + 4 * length (w ∷ ws)) 0 0) labels
    (parts ((t ++ to_le_bytes w32 w) ++ bytes_for ws) [] []) (parts (t ++ bytes_for (w ∷ ws)) [] []) refl (ap (λ (k : ℕ). lens k 0 0) (omega arith)) (joined t w ws)
    (reaches-more (word_line names at w ∷ []) (text_lines names entry (at + 4) ws) before section.Text section.Text (lens (n + 4) 0 0) (lens ((n + 4) + 4 * length ws) 0 0) labels labels
    (parts (t ++ to_le_bytes w32 w) [] []) (parts ((t ++ to_le_bytes w32 w) ++ bytes_for ws) [] []) first later))
  where
    joined : (t : List ℕ) (w : ℕ) (ws : List ℕ) (s : Section) → parts ((t ++ to_le_bytes w32 w) ++ bytes_for ws) [] [] s ≡ parts (t ++ bytes_for (w ∷ ws)) [] [] s
    joined t w ws section.Text = append_assoc t (to_le_bytes w32 w) (bytes_for ws)
    joined t w ws section.Data = refl
    joined t w ws section.Bss = refl
