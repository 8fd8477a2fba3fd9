-- The bytes of each section are as many as the first pass counts.
use Rattle.std.proofs.Common.{◌≡◌, ℕ, ◌+◌, Bool, true, false, List, [], ◌∷◌, ◌++◌, length, length-append, Option, Some, None, refl, ap, ◌∙◌, arith, ℤ}
use Rattle.std.proofs.lemmas.List.{append-nil}
use Rattle.std.proofs.lemmas.List.Concat.{flat_map-append}
use Rattle.ptk_asm_language.specs.declared.statement.Section.{Section}
use Rattle.ptk_asm_language.specs.declared.statement.Section.TheVariants as section
use Rattle.ptk_asm_language.specs.declared.statement.Form.{Form}
use Rattle.ptk_asm_language.specs.declared.place.Span.{Span}
use Rattle.ptk_asm_language.specs.declared.place.Lengths.{Lengths}
use Rattle.ptk_asm_language.specs.Statements.{Value, Nothing, Given, Labelled, bytes_of, size_of}
use Rattle.ptk_asm_language.specs.declared.place.Extent.{Extent}
use Rattle.ptk_asm_language.specs.Source.{last_of, Statement, Placed, Layout, statement_in, statement_of, line_tokens, no_lengths, grown_by, taken, length_in, place_in, place_after, section_after, lengths_after, placed_at, placed_after, span_after, number_of, placed_bytes, bytes_in, contents_of}
use Rattle.ptk_asm.proofs.FormBytes.{is_sized, bytes-length_given, bytes-length_any}
use Rattle.ptk_asm.proofs.Faultless.{stated-number}

-- ---- a statement

value_length : (l : Layout) (p : Placed) (f : Form) (rs : List ℕ) (v : Value) → (is_sized f ≡ true → (n : ℤ) × (v ≡ Given n)) → length (bytes_of f rs (number_of l p v)) ≡ size_of f v
value_length l p f rs (Given n) sized = bytes-length_given f rs n
value_length l p f rs Nothing sized = by_size (is_sized f) refl
  where
    by_size : (b : Bool) → is_sized f ≡ b → length (bytes_of f rs (number_of l p Nothing)) ≡ size_of f Nothing
    by_size true e = let given = sized e in let never : Nothing ≡ Given given.0 = given.1 in absurd (cc)
    by_size false e = bytes-length_any f rs (number_of l p Nothing) Nothing e
value_length l p f rs (Labelled name) sized = by_size (is_sized f) refl
  where
    by_size : (b : Bool) → is_sized f ≡ b → length (bytes_of f rs (number_of l p (Labelled name))) ≡ size_of f (Labelled name)
    by_size true e = let given = sized e in let never : Labelled name ≡ Given given.0 = given.1 in absurd (cc)
    by_size false e = bytes-length_any f rs (number_of l p (Labelled name)) (Labelled name) e

-- the bytes of a statement are as many as it takes
pub placed-length : (l : Layout) (p : Placed) → (is_sized p.statement.form ≡ true → (n : ℤ) × (p.statement.operands.value ≡ Given n)) → length (placed_bytes l p) ≡ taken p.statement
placed-length l p sized = value_length l p p.statement.form p.statement.operands.registers p.statement.operands.value sized

-- ---- a line

none_added : (n m : ℕ) → m ≡ 0 → n + m ≡ n
none_added n m e = omega arith

some_added : (n : ℕ) (bytes : List ℕ) (m : ℕ) → length bytes ≡ m → n + length (bytes ++ []) ≡ n + m
some_added n bytes m e = ap (λ (k : ℕ). n + k) (ap length (append-nil bytes) ∙ e)

added-length : (l : Layout) (at here : Section) (span : Span) (last : Extent) (lens : Lengths) (found : Option Statement)
    → ((s : Statement) → found ≡ Some s → is_sized s.form ≡ true → (n : ℤ) × (s.operands.value ≡ Given n))
    → length_in lens at + length (contents_of l at (placed_at span (place_in lens here) last found)) ≡ length_in (grown_by lens here found) at
added-length l at here span last lens None sized = none_added (length_in lens at) 0 refl
added-length l section.Text section.Text span last lens (Some s) sized =
    let p : Placed = record { span = span; place = place_in lens section.Text; last = last; statement = s } in some_added lens.text (placed_bytes l p) (taken s) (placed-length l p (sized s refl))
added-length l section.Data section.Data span last lens (Some s) sized =
    let p : Placed = record { span = span; place = place_in lens section.Data; last = last; statement = s } in some_added lens.«data» (placed_bytes l p) (taken s) (placed-length l p (sized s refl))
added-length l section.Bss section.Bss span last lens (Some s) sized =
    let p : Placed = record { span = span; place = place_in lens section.Bss; last = last; statement = s } in some_added lens.bss (placed_bytes l p) (taken s) (placed-length l p (sized s refl))
added-length l section.Text section.Data span last lens (Some s) sized = none_added lens.text 0 refl
added-length l section.Text section.Bss span last lens (Some s) sized = none_added lens.text 0 refl
added-length l section.Data section.Text span last lens (Some s) sized = none_added lens.«data» 0 refl
added-length l section.Data section.Bss span last lens (Some s) sized = none_added lens.«data» 0 refl
added-length l section.Bss section.Text span last lens (Some s) sized = none_added lens.bss 0 refl
added-length l section.Bss section.Data span last lens (Some s) sized = none_added lens.bss 0 refl

none-length : (at : Section) → 0 ≡ length_in no_lengths at
none-length section.Text = refl
none-length section.Data = refl
none-length section.Bss = refl

-- ---- lines

-- the bytes of a section are as many as the first pass counts
pub section-length : (l : Layout) (at : Section) (before : List (List ℕ)) → length (contents_of l at (placed_after before)) ≡ length_in (lengths_after before) at
section-length l at [] = none-length at
section-length l at (line ∷ before) =
    ap length (flat_map-append (bytes_in l at) (placed_after before) (placed_at (span_after before line) (place_after before) (last_of line) (statement_of line)))
    ∙ length-append (contents_of l at (placed_after before)) (contents_of l at (placed_at (span_after before line) (place_after before) (last_of line) (statement_of line)))
    ∙ ap (λ (n : ℕ). n + length (contents_of l at (placed_at (span_after before line) (place_after before) (last_of line) (statement_of line)))) (section-length l at before)
    ∙ added-length l at (section_after before) (span_after before line) (last_of line) (lengths_after before) (statement_of line) (stated_number line)
  where
    stated_number : (line : List ℕ) (s : Statement) → statement_of line ≡ Some s → is_sized s.form ≡ true → (n : ℤ) × (s.operands.value ≡ Given n)
    stated_number line s e sized = stated-number (statement_in (line_tokens line)) s sized e

-- the bytes of the text
pub text-length : (l : Layout) (before : List (List ℕ)) → length (contents_of l section.Text (placed_after before)) ≡ (lengths_after before).text
text-length l before = section-length l section.Text before

-- the bytes of the data
pub data-length : (l : Layout) (before : List (List ℕ)) → length (contents_of l section.Data (placed_after before)) ≡ (lengths_after before).«data»
data-length l before = section-length l section.Data before
