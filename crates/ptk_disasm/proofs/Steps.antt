-- What both passes do at a line with a spelled statement.
use Rattle.std.proofs.Common.{◌≡◌, ℕ, Bool, true, false, List, [], ◌∷◌, ◌++◌, Option, Some, None, refl, ap, ◌∙◌, ℤ}
use Rattle.std.specs.Prelude.{not, if◌then◌else◌}
use Rattle.std.proofs.lemmas.List.{append-nil}
use Rattle.std.proofs.lemmas.List.Concat.{flat_map-append}
use Rattle.std.specs.Result.{result_err}
use Rattle.ptk_asm_language.specs.declared.statement.Section.{Section}
use Rattle.ptk_asm_language.specs.declared.fault.FaultKind.{FaultKind}
use Rattle.ptk_asm_language.specs.declared.fault.FaultKind.TheVariants as fault
use Rattle.ptk_asm_language.specs.declared.place.Place.{Place}
use Rattle.ptk_asm_language.specs.declared.place.Lengths.{Lengths}
use Rattle.ptk_asm_language.specs.Tokens.{Token, Name}
use Rattle.ptk_asm_language.specs.Statements.{Value, Nothing, Given, Labelled, no_operands, slots_of, stands_in, bytes_of}
use Rattle.ptk_asm_language.specs.Source.{Statement, Placed, Layout, Fault, last_of, turned_by, turned_to, section_after, grown, grown_by, taken, lengths_after, place_after, with_label, labels_after, span_after, placed_at, placed_after, same_section, first_of, fault_if, label_fault, mnemonic_fault, operand_fault, is_misplaced, place_fault, statement_fault, tokens_fault, line_fault, reference_fault, second_pass, number_of, placed_bytes, bytes_in, contents_of}
use Rattle.ptk_disasm.specs.Spelling.{Line, Stated, mnemonic, value_text, line_text}
use Rattle.ptk_disasm.proofs.Names.{mnemonic-form}
use Rattle.ptk_disasm.proofs.Operands.{tokens_for, operands-read}
use Rattle.ptk_disasm.proofs.Stated.{IsSpelled, no_mark, no_label, all_statement, stated_same, line-tokens, line-read}
use Rattle.ptk_disasm.proofs.WordsWritten.{has_no_label, value_number}

-- a line with its LF
abbrev pub raw : Line → List ℕ
raw l = line_text l ++ 10 ∷ []

-- ---- no fault of the first pass

three_none : (a b c : Option FaultKind) → a ≡ None → b ≡ None → c ≡ None → first_of (a ∷ b ∷ c ∷ []) ≡ None
three_none a b c h k m = rw (h, k, m) refl

two_none : (a b : Option FaultKind) → a ≡ None → b ≡ None → first_of (a ∷ b ∷ []) ≡ None
two_none a b h k = rw (h, k) refl

-- the tokens of a spelled statement
abbrev pub spelled_tokens : (s : Statement) → IsSpelled s → List Token
spelled_tokens s is = Name (mnemonic s.form) ∷ tokens_for is.number (slots_of s.form) s.operands.registers

statement_clean : (at : Place) (s : Statement) (is : IsSpelled s) → stands_in s.form at.section ≡ true → is_misplaced at s ≡ false → statement_fault at (spelled_tokens s is) ≡ None
statement_clean at s is stands placed =
    three_none _ _ _
    (ap (mnemonic_fault at.section (spelled_tokens s is)) (mnemonic-form s.form) ∙ ap (λ (b : Bool). fault_if (not b) fault.Mnemonic) stands)
    (ap (operand_fault (spelled_tokens s is)) (mnemonic-form s.form)
    ∙ ap result_err (operands-read (value_text s.form s.operands.value) is.number (slots_of s.form) s.operands.registers no_operands is.fits))
    (ap (place_fault at) (stated_same s is) ∙ ap (λ (b : Bool). fault_if b fault.Range) placed)

pub line-clean : (before : List (List ℕ)) (s : Statement) (is : IsSpelled s) (comment : List ℕ)
    → stands_in s.form (section_after before) ≡ true → is_misplaced (place_after before) s ≡ false → line_fault before (raw (Stated s comment)) ≡ None
line-clean before s is comment stands placed =
    ap (tokens_fault (labels_after before) (place_after before)) (line-tokens s is comment)
    ∙ two_none _ _
    (ap (label_fault (labels_after before)) (no_label (mnemonic s.form) is.number (slots_of s.form) s.operands.registers (no_mark s.form)))
    (ap (statement_fault (place_after before)) (all_statement (mnemonic s.form) is.number (slots_of s.form) s.operands.registers (no_mark s.form))
    ∙ statement_clean (place_after before) s is stands placed)

-- ---- what lies before a line

-- what the lines before come to
pub record Stands (before : List (List ℕ)) (at : Section) (lengths : Lengths) (labels : List (List ℕ × Place)) (held : Section → List ℕ) : Type 0 where
  pub turned : section_after before ≡ at
  pub counted : lengths_after before ≡ lengths
  pub labelled : labels_after before ≡ labels
  pub contents : (l : Layout) (s : Section) → contents_of l s (placed_after before) ≡ held s
  pub known : (l : Layout) → second_pass l (placed_after before) ≡ None

-- the bytes that a statement without a label adds to a section
abbrev pub added : Section → Statement → Section → List ℕ
added at s here = if same_section here at then bytes_of s.form s.operands.registers (value_number s.operands.value) else []

number_same : (l : Layout) (p : Placed) (v : Value) → has_no_label v ≡ true → number_of l p v ≡ value_number v
number_same l p Nothing h = refl
number_same l p (Given n) h = refl
number_same l p (Labelled name) h = absurd (cc)

reference_none : (l : Layout) (p : Placed) (v : Value) → p.statement.operands.value ≡ v → has_no_label v ≡ true → reference_fault l p ≡ None
reference_none l p Nothing e h = rw e refl
reference_none l p (Given n) e h = rw e refl
reference_none l p (Labelled name) e h = absurd (cc)

second_more : (l : Layout) (ps : List Placed) (p : Placed) → second_pass l ps ≡ None → reference_fault l p ≡ None → second_pass l (ps ++ p ∷ []) ≡ None
second_more l [] p before here = rw here refl
second_more l (q ∷ ps) p before here = by_fault (λ e. second_more l ps p e here) (reference_fault l q) refl
  where
    by_fault : (second_pass l ps ≡ None → second_pass l (ps ++ p ∷ []) ≡ None) → (found : Option FaultKind) → reference_fault l q ≡ found → second_pass l (q ∷ ps ++ p ∷ []) ≡ None
    by_fault later None e = rw e (later (rw e at before))
    by_fault later (Some k) e = let never : ◌≡◌ {A = Option Fault} (Some (record { span = q.span; place = q.last; kind = k })) None = rw e at before in absurd (cc)

-- a line with a statement more
pub stated-step : (before : List (List ℕ)) (at : Section) (lengths : Lengths) (labels : List (List ℕ × Place)) (held : Section → List ℕ)
    → Stands before at lengths labels held → (s : Statement) (is : IsSpelled s) (comment : List ℕ) → has_no_label s.operands.value ≡ true
    → Stands (raw (Stated s comment) ∷ before) (turned_by at s.form) (grown lengths at (taken s)) labels (λ here. held here ++ added at s here)
stated-step before at lengths labels held stands s is comment none =
    let read = line-read s is comment in
    let line : List ℕ = raw (Stated s comment) in
    let p : Placed = record { span = span_after before line; place = place_after before; last = last_of line; statement = s } in
    let placed : placed_after (line ∷ before) ≡ placed_after before ++ p ∷ [] =
    ap (λ (o : Option Statement). placed_after before ++ placed_at (span_after before line) (place_after before) (last_of line) o) read.0 in
    record {
      turned = ap (turned_to (section_after before)) read.0 ∙ ap (λ (t : Section). turned_by t s.form) stands.turned;
      counted = ap (grown_by (lengths_after before) (section_after before)) read.0
          ∙ ap (λ (t : Section). grown (lengths_after before) t (taken s)) stands.turned ∙ ap (λ (n : Lengths). grown n at (taken s)) stands.counted;
      labelled = ap (λ (o : Option (List ℕ)). with_label o (place_after before) (labels_after before)) read.1 ∙ stands.labelled;
      contents = λ l here. ap (contents_of l here) placed
          ∙ flat_map-append (bytes_in l here) (placed_after before) (p ∷ [])
          ∙ ap (λ (bytes : List ℕ). bytes ++ (bytes_in l here p ++ [])) (stands.contents l here)
          ∙ ap (λ (bytes : List ℕ). held here ++ bytes) (append-nil (bytes_in l here p)
          ∙ ap (λ (t : Section). if same_section here t then placed_bytes l p else []) stands.turned
          ∙ ap (λ (n : ℤ). if same_section here at then bytes_of s.form s.operands.registers n else []) (number_same l p s.operands.value none));
      known = λ l. ap (second_pass l) placed ∙ second_more l (placed_after before) p (stands.known l) (reference_none l p s.operands.value refl none);
    }
