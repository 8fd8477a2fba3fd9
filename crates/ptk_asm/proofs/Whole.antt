-- The text of lines without a fault is whole words, and the entry is the offset of one.
use Rattle.std.proofs.Common.{◌≡◌, ℕ, ◌+◌, ◌%◌, ◌≤◌, Bool, true, false, List, [], ◌∷◌, Option, Some, None, refl, sym, ap, subst, ◌∙◌, arith}
use Rattle.std.specs.Prelude.{codes, unwrap_or}
use Rattle.std.specs.Str.{bytes_eq}
use Rattle.ptk_asm_language.specs.declared.statement.Section.{Section}
use Rattle.ptk_asm_language.specs.declared.statement.Section.TheVariants as section
use Rattle.ptk_asm_language.specs.declared.fault.FaultKind.{FaultKind}
use Rattle.ptk_asm_language.specs.declared.fault.FaultKind.TheVariants as fault
use Rattle.ptk_asm_language.specs.declared.place.Place.{Place}
use Rattle.ptk_asm_language.specs.declared.place.Lengths.{Lengths}
use Rattle.ptk_asm_language.specs.Lines.{code_of}
use Rattle.ptk_asm_language.specs.Tokens.{Token, tokens_of}
use Rattle.ptk_asm_language.specs.Statements.{named, stands_in}
use Rattle.ptk_asm_language.specs.Source.{Statement, stated, statement_in, statement_of, statement_fault, label_in, label_of, label_fault, line_tokens, first_of, tokens_fault, line_fault, grown_by, taken, place_in, place_after, section_after, lengths_after, labels_after, with_label, entry_at, entry_of}
use Rattle.ptk_asm.specs.Whole.{IsWhole}
use Rattle.ptk_asm.proofs.Faultless.{stated-stands, size-whole}

-- ---- lengths

sum_whole : (a b : ℕ) → a % 4 ≡ 0 → b % 4 ≡ 0 → (a + b) % 4 ≡ 0
sum_whole a b h k = grind arith

grown-whole : (l : Lengths) (at : Section) (found : Option Statement) → ((s : Statement) → found ≡ Some s → stands_in s.form at ≡ true) → l.text % 4 ≡ 0 → (grown_by l at found).text % 4 ≡ 0
grown-whole l at None stands h = h
grown-whole l section.Text (Some s) stands h = sum_whole l.text (taken s) h (size-whole s.form s.operands.value (stands s refl))
grown-whole l section.Data (Some s) stands h = h
grown-whole l section.Bss (Some s) stands h = h

grown-more : (l : Lengths) (at : Section) (found : Option Statement) → l.text ≤ (grown_by l at found).text
grown-more l at None = omega arith
grown-more l section.Text (Some s) = omega arith
grown-more l section.Data (Some s) = omega arith
grown-more l section.Bss (Some s) = omega arith

-- ---- the entry

-- a whole offset within a text (own)
abbrev Within : ℕ → ℕ → Type 0
Within entry text = (entry % 4 ≡ 0) × (entry ≤ text)

entry-place : (l : Lengths) (at : Section) → l.text % 4 ≡ 0 → Within (entry_at (Some (place_in l at))) l.text
entry-place l section.Text h = (h, omega arith)
entry-place l section.Data h = (refl, omega arith)
entry-place l section.Bss h = (refl, omega arith)

named-first : (n q : List ℕ) (at : Place) (labels : List (List ℕ × Place)) → bytes_eq n q ≡ true → named ((n, at) ∷ labels) q ≡ Some at
named-first n q at labels e = rw e refl

named-later : (n q : List ℕ) (at : Place) (labels : List (List ℕ × Place)) → bytes_eq n q ≡ false → named ((n, at) ∷ labels) q ≡ named labels q
named-later n q at labels e = rw e refl

entry-with : (label : Option (List ℕ)) (l : Lengths) (at : Section) (labels : List (List ℕ × Place)) → l.text % 4 ≡ 0 → Within (entry_of labels) l.text
    → Within (entry_of (with_label label (place_in l at) labels)) l.text
entry-with None l at labels h e = e
entry-with (Some n) l at labels h e = by_name (bytes_eq n (codes "_start")) refl
  where
    by_name : (b : Bool) → bytes_eq n (codes "_start") ≡ b → Within (entry_of ((n, place_in l at) ∷ labels)) l.text
    by_name true is =
        subst (λ (o : Option Place). Within (entry_at o) l.text) (sym (named-first n (codes "_start") (place_in l at) labels is)) (entry-place l at h)
    by_name false is =
        subst (λ (o : Option Place). Within (entry_at o) l.text) (sym (named-later n (codes "_start") (place_in l at) labels is)) e

-- ---- a line

second_none : (a b : Option FaultKind) → first_of (a ∷ b ∷ []) ≡ None → b ≡ None
second_none None None e = refl
second_none None (Some k) e = e
second_none (Some k) b e = absurd (cc)

-- behind a line of these tokens
whole_behind : (before : List (List ℕ)) (line : List ℕ) (ts : List Token) → line_tokens line ≡ ts → statement_fault (place_after before) (statement_in ts) ≡ None
    → IsWhole before → IsWhole (line ∷ before)
whole_behind before line ts is none whole =
    let statement : statement_of line ≡ stated (statement_in ts) = ap (λ (us : List Token). stated (statement_in us)) is in
    let label : label_of line ≡ label_in ts = ap label_in is in
    let lengths : lengths_after (line ∷ before) ≡ grown_by (lengths_after before) (section_after before) (stated (statement_in ts)) =
    ap (grown_by (lengths_after before) (section_after before)) statement in
    let labels : labels_after (line ∷ before) ≡ with_label (label_in ts) (place_after before) (labels_after before) =
    ap (λ (o : Option (List ℕ)). with_label o (place_after before) (labels_after before)) label in
    let entry : Within (entry_of (with_label (label_in ts) (place_after before) (labels_after before))) (lengths_after before).text =
    entry-with (label_in ts) (lengths_after before) (section_after before) (labels_after before) whole.text (whole.entry, whole.inside) in
    let text : (grown_by (lengths_after before) (section_after before) (stated (statement_in ts))).text % 4 ≡ 0 =
    grown-whole (lengths_after before) (section_after before) (stated (statement_in ts)) (λ (s : Statement) (found : stated (statement_in ts) ≡ Some s). stated-stands (place_after before) (statement_in ts) s none found) whole.text in
    let more = grown-more (lengths_after before) (section_after before) (stated (statement_in ts)) in
    let inside : entry_of (with_label (label_in ts) (place_after before) (labels_after before)) ≤ (grown_by (lengths_after before) (section_after before) (stated (statement_in ts))).text = omega (arith, entry.1, more) in
    record {
      text = subst (λ (l : Lengths). l.text % 4 ≡ 0) (sym lengths) text;
      entry = subst (λ (ls : List (List ℕ × Place)). entry_of ls % 4 ≡ 0) (sym labels) entry.0;
      inside =
          subst (λ (ls : List (List ℕ × Place)). entry_of ls ≤ (lengths_after (line ∷ before)).text) (sym labels)
          (subst (λ (l : Lengths). entry_of (with_label (label_in ts) (place_after before) (labels_after before)) ≤ l.text) (sym lengths) inside);
    }

-- no lines are whole
pub whole-none : IsWhole []
whole-none = record { text = refl; entry = refl; inside = omega arith }

-- lines stay whole behind a line without a fault
pub whole-line : (before : List (List ℕ)) (line : List ℕ) → line_fault before line ≡ None → IsWhole before → IsWhole (line ∷ before)
whole-line before line none whole = by_tokens (tokens_of (code_of line)) refl
  where
    by_tokens : (found : Option (List Token)) → tokens_of (code_of line) ≡ found → IsWhole (line ∷ before)
    by_tokens None e =
        let never : ◌≡◌ {A = Option FaultKind} (Some fault.Token) None = sym (ap (tokens_fault (labels_after before) (place_after before)) e) ∙ none in absurd (cc)
    by_tokens (Some ts) e =
        let checks : tokens_fault (labels_after before) (place_after before) (Some ts) ≡ None = sym (ap (tokens_fault (labels_after before) (place_after before)) e) ∙ none in
        whole_behind before line ts (ap (λ (o : Option (List Token)). unwrap_or o []) e)
        (second_none (label_fault (labels_after before) (label_in ts)) (statement_fault (place_after before) (statement_in ts)) checks) whole
