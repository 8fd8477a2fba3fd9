-- Texts without an LF and without a #, as lines and before comments.
use Rattle.std.proofs.Common.{◌≡◌, ℕ, Bool, true, false, ◌&&◌, List, [], ◌∷◌, ◌++◌, refl, ap, ◌∙◌, arith, ◌==◌, ◌+◌, take, one-add}
use Rattle.std.specs.Prelude.{not}
use Rattle.std.specs.List.{list_all}
use Rattle.std.proofs.lemmas.Bool.Decides.{nat_tests}
use Rattle.std.proofs.lemmas.Bool.{and_parts}
use Rattle.ptk_asm_language.specs.Tokens.{is_run, is_first, is_letter, is_digit}
use Rattle.ptk_asm_language.specs.Lines.{raw_lines, onto_first, without_ending, without_comment, code_of}
pub use Rattle.ptk_disasm.specs.Disassembly.{is_within_line}

-- no LF and no #
abbrev pub is_quiet : ℕ → Bool
is_quiet c = not (c == 10) && not (c == 35)

run_quiet : (c : ℕ) → is_run c ≡ true → is_quiet c ≡ true
unfolding is_run is_first is_letter is_digit
run_quiet c h = grind (arith, nat_tests)

pub run-quiet : (xs : List ℕ) → list_all is_run xs ≡ true → list_all is_quiet xs ≡ true
run-quiet [] h = refl
run-quiet (x ∷ xs) h =
    let parts = and_parts (is_run x) (list_all is_run xs) h in rw (run_quiet x parts.0) (run-quiet xs parts.1)

pub both-quiet : (xs ys : List ℕ) → list_all is_quiet xs ≡ true → list_all is_quiet ys ≡ true → list_all is_quiet (xs ++ ys) ≡ true
both-quiet [] ys h k = k
both-quiet (x ∷ xs) ys h k =
    let parts = and_parts (is_quiet x) (list_all is_quiet xs) h in rw parts.0 (both-quiet xs ys parts.1 k)

no_comment : (c : ℕ) → is_quiet c ≡ true → (c == 35) ≡ false
no_comment c h = grind (arith, nat_tests)

-- ---- lines

within_lf : (c : ℕ) → is_within_line c ≡ true → (c == 10) ≡ false
within_lf c h = grind (arith, nat_tests)

-- a line and its LF is the first line
pub raw_lines-first : (xs rest : List ℕ) → list_all is_within_line xs ≡ true → raw_lines (xs ++ 10 ∷ rest) ≡ (xs ++ 10 ∷ []) ∷ raw_lines rest
raw_lines-first [] rest h = refl
raw_lines-first (x ∷ xs) rest h =
    let parts = and_parts (is_within_line x) (list_all is_within_line xs) h in
    rw (within_lf x parts.0) (ap (onto_first x) (raw_lines-first xs rest parts.1))

-- ---- comments

take_one : (k c : ℕ) (cs : List ℕ) → take (1 + k) (c ∷ cs) ≡ c ∷ take k cs
take_one k c cs = rw one-add refl

comment_more : (c : ℕ) (cs : List ℕ) → (c == 35) ≡ false → without_comment (c ∷ cs) ≡ c ∷ without_comment cs
comment_more c cs e = rw e (take_one _ c cs)

comment_stops : (rest : List ℕ) → without_comment (32 ∷ 35 ∷ rest) ≡ 32 ∷ []
comment_stops rest = comment_more 32 (35 ∷ rest) refl

comment-cut : (code rest : List ℕ) → list_all is_quiet code ≡ true → without_comment (code ++ 32 ∷ 35 ∷ rest) ≡ code ++ 32 ∷ []
comment-cut [] rest h = comment_stops rest
comment-cut (c ∷ cs) rest h =
    let parts = and_parts (is_quiet c) (list_all is_quiet cs) h in
    comment_more c (cs ++ 32 ∷ 35 ∷ rest) (no_comment c parts.0) ∙ ap (λ (t : List ℕ). c ∷ t) (comment-cut cs rest parts.1)

-- the end of a line is not among what stands before a comment
ending-behind : (code : List ℕ) (x : ℕ) (rest : List ℕ) → without_ending (code ++ 32 ∷ 35 ∷ 32 ∷ x ∷ rest) ≡ code ++ 32 ∷ 35 ∷ without_ending (32 ∷ x ∷ rest)
ending-behind [] x rest = refl
ending-behind (c ∷ []) x rest = refl
ending-behind (c ∷ d ∷ []) x rest = refl
ending-behind (c ∷ d ∷ e ∷ cs) x rest = ap (λ (t : List ℕ). c ∷ t) (ending-behind (d ∷ e ∷ cs) x rest)

-- what stands before a blank and a comment is the code, with the blank
pub code-kept : (code : List ℕ) (x : ℕ) (rest : List ℕ) → list_all is_quiet code ≡ true → code_of (code ++ 32 ∷ 35 ∷ 32 ∷ x ∷ rest) ≡ code ++ 32 ∷ []
code-kept code x rest h = ap without_comment (ending-behind code x rest) ∙ comment-cut code (without_ending (32 ∷ x ∷ rest)) h
