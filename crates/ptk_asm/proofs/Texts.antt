-- The layout behind a line of the source.
use Rattle.std.proofs.Common.{◌≡◌, ℕ, ◌+◌, ◌-◌, length, arith, List, [], ◌∷◌, ◌++◌, Some, None, Option, refl, sym, ap, subst, ◌∙◌}
use Rattle.std.specs.Prelude.{sum_by, unwrap_or, Result, Ok, Err, OnOk}
use Rattle.std.proofs.lemmas.List.{append-nil}
use Rattle.std.proofs.lemmas.List.Sums.{sum_by-cons}
use Rattle.ptk_asm_language.specs.declared.place.Span.{Span}
use Rattle.ptk_asm_language.specs.declared.place.Extent.{Extent}
use Rattle.ptk_asm_language.specs.declared.fault.FaultKind.{FaultKind}
use Rattle.ptk_asm_language.specs.declared.fault.FaultKind.TheVariants as fault
use Rattle.ptk_asm_language.specs.Lines.{raw_lines, without_ending, without_comment, code_of}
use Rattle.ptk_asm_language.specs.Places.{places_of, place_at, last_place}
use Rattle.ptk_asm_language.specs.Reading.{Refuses, token_fault, fault_unless}
use Rattle.ptk_asm_language.specs.Tokens.{Token, tokens_of}
use Rattle.ptk_asm_language.specs.Source.{Statement, Placed, placed_at, stated, line_fault, line_place, tokens_place, last_of, at_line, first_pass, label_in, statement_in, span_after, placed_after, grown_by, turned_to, with_label, section_after, lengths_after, labels_after, place_after}
use Rattle.ptk_asm.proofs.Whole.{whole-none}
use Rattle.ptk_asm.specs.Passing.{IsBehind, State, state_after, behind, stepped, labelled, fault_at, index_at}

-- the state behind lines and a line with this statement and this label
abbrev made : List (List ℕ) → List ℕ → Option Statement → Option (List ℕ) → State
made before line o n = record {
  section = turned_to (section_after before) o;
  lengths = grown_by (lengths_after before) (section_after before) o;
  labels = with_label n (place_after before) (labels_after before);
  placed = placed_after before ++ placed_at (span_after before line) (place_after before) (last_of line) o;
}

stepped-made : (before : List (List ℕ)) (line : List ℕ) (o : Option Statement) (n : Option (List ℕ)) → stepped (labelled (state_after before) n) (span_after before line) (last_of line) o ≡ made before line o n
stepped-made before line None n = ap (λ (ps : List Placed). with_placed (labelled (state_after before) n) ps) (sym (append-nil (placed_after before)))
  where
    with_placed : State → List Placed → State
    with_placed m ps = record m { placed = ps }
stepped-made before line (Some s) n = refl

pub state-behind : (before : List (List ℕ)) (line : List ℕ) (ts : List Token) → tokens_of (code_of line) ≡ Some ts → behind (state_after before) (span_after before line) (last_of line) ts ≡ state_after (line ∷ before)
state-behind before line ts e =
    stepped-made before line (stated (statement_in ts)) (label_in ts)
    ∙ sym (ap (λ (o : Option (List Token)). made before line (stated (statement_in (unwrap_or o []))) (label_in (unwrap_or o []))) e)

pub fault-behind : (before : List (List ℕ)) (line : List ℕ) (ts : Option (List Token)) → tokens_of (code_of line) ≡ ts → line_fault before line ≡ fault_at (state_after before) ts
fault-behind before line ts e = ap (fault_at (state_after before)) e

-- the fault of tokens is the first of a line
pub refuses-tokens : (k : FaultKind) (before : List (List ℕ)) (line : List ℕ) → Refuses k (token_fault (code_of line)) → Refuses k (line_fault before line)
refuses-tokens k before line h = by_tokens k (tokens_of (code_of line)) h
  where
    by_tokens : (k : FaultKind) (o : Option (List Token)) → Refuses k (fault_unless o) → Refuses k (fault_at (state_after before) o)
    by_tokens fault.Memory o h = tt
    by_tokens fault.Token None h = h
    by_tokens fault.Mnemonic None h = h
    by_tokens fault.Register None h = h
    by_tokens fault.Range None h = h
    by_tokens fault.UnknownLabel None h = h
    by_tokens fault.DoubledLabel None h = h
    by_tokens fault.Token (Some ts) h = cc
    by_tokens fault.Mnemonic (Some ts) h = cc
    by_tokens fault.Register (Some ts) h = cc
    by_tokens fault.Range (Some ts) h = cc
    by_tokens fault.UnknownLabel (Some ts) h = cc
    by_tokens fault.DoubledLabel (Some ts) h = cc

-- the same of the code's tokens
pub state_line : (before : List (List ℕ)) (line bare parts : List ℕ) (span : Span) (last : Extent) (ts : List Token) → bare ≡ without_ending line → parts ≡ without_comment bare → tokens_of parts ≡ Some ts → span ≡ span_after before line → last ≡ last_of line
    → behind (state_after before) span last ts ≡ state_after (line ∷ before)
state_line before line bare parts span last ts e f g i j =
    let t : tokens_of (code_of line) ≡ Some ts = rw (← e, ← f) g in
    ap (λ (x : Span). behind (state_after before) x last ts) i ∙ ap (λ (x : Extent). behind (state_after before) (span_after before line) x ts) j ∙ state-behind before line ts t

pub fault_line : (before : List (List ℕ)) (line bare parts : List ℕ) (ts : List Token) → bare ≡ without_ending line → parts ≡ without_comment bare → tokens_of parts ≡ Some ts
    → fault_at (state_after before) (Some ts) ≡ line_fault before line
fault_line before line bare parts ts e f g =
    let t : tokens_of (code_of line) ≡ Some ts = rw (← e, ← f) g in
    sym (fault-behind before line (Some ts) t)

pub refuses_tokens : (k : FaultKind) (before : List (List ℕ)) (line bare parts : List ℕ) → bare ≡ without_ending line → parts ≡ without_comment bare → Refuses k (token_fault parts) → Refuses k (line_fault before line)
refuses_tokens k before line bare parts e f h =
    let p : code_of line ≡ parts = sym (f ∙ ap without_comment e) in
    refuses-tokens k before line (subst (λ (x : List ℕ). Refuses k (token_fault x)) (sym p) h)

-- the bytes of a token at fault are those at fault in its line
pub place_line : (before : List (List ℕ)) (line bare parts : List ℕ) (ts : List Token) (xs : List Extent) (end : ℕ) → bare ≡ without_ending line → parts ≡ without_comment bare → tokens_of parts ≡ Some ts
    → xs ≡ places_of parts → end ≡ length parts → place_at xs (index_at (state_after before) ts) end ≡ line_place before line
place_line before line bare parts ts xs end e f g h i =
    let p : code_of line ≡ parts = sym (f ∙ ap without_comment e) in
    let t : tokens_of (code_of line) ≡ Some ts = rw p g in
    ap (λ (ys : List Extent). place_at ys (index_at (state_after before) ts) end) h
    ∙ ap (λ (n : ℕ). place_at (places_of parts) (index_at (state_after before) ts) n) i
    ∙ ap (λ (code : List ℕ). place_at (places_of code) (index_at (state_after before) ts) (length code)) (sym p)
    ∙ sym (ap (tokens_place (labels_after before) (place_after before) (code_of line)) t)

-- the last of the code's tokens is the last of the line's
pub last_line : (line bare parts : List ℕ) (xs : List Extent) → bare ≡ without_ending line → parts ≡ without_comment bare → xs ≡ places_of parts → last_place xs ≡ last_of line
last_line line bare parts xs e f h = ap last_place (h ∙ ap places_of (f ∙ ap without_comment e))

-- a line of this number that begins here
abbrev spanned : List ℕ → ℕ → ℕ → Span
spanned line k start = record { line = k + 1; start = start; end = start + length (without_ending line) }

-- the place of the line behind these
pub span_behind : (text rest line : List ℕ) (number : ℕ) (before : List (List ℕ)) → IsBehind text rest number before → spanned line number (length text - length rest) ≡ span_after before line
span_behind text rest line number before h =
    let n : number ≡ length before = sym h.count in
    let e : length text - length rest ≡ sum_by length before = omega (arith, h.lengths) in
    ap (λ (k : ℕ). spanned line k (length text - length rest)) n ∙ ap (λ (k : ℕ). spanned line (length before) k) e

-- the lines behind which the first pass stands, with a line more
pub behind_more : (text rest after line : List ℕ) (number : ℕ) (before : List (List ℕ)) → IsBehind text rest number before → raw_lines rest ≡ line ∷ raw_lines after → length line + length after ≡ length rest
    → line_fault before line ≡ None → IsBehind text after (number + 1) (line ∷ before)
behind_more text rest after line number before h e l f = record {
  count = let n = h.count in omega arith;
  lengths =
      let n : sum_by length before + length rest ≡ length text = h.lengths in
      let m : sum_by length (line ∷ before) ≡ length line + sum_by length before = sum_by-cons length line before in
      omega arith;
  same =
      sym (ap (λ (o : Option FaultKind). at_line (span_after before line) (line_place before line) o (first_pass (line ∷ before) (raw_lines after))) f)
      ∙ sym (ap (first_pass before) e) ∙ h.same;
}

-- what holds of an Ok
pub on_ok_map : {A E : Type 0} (r : Result A E) (P Q R : Type 0) → (P → Q → R) → OnOk r P → OnOk r Q → OnOk r R
on_ok_map (Ok x) P Q R f h i = f h i
on_ok_map (Err e) P Q R f h i = tt

-- no lines are whole
pub ruleset start_rules = (whole-none)
