-- The pieces of a line from its front.
use Rattle.std.proofs.Common.{◌≡◌, ℕ, ◌+◌, Bool, true, false, ◌||◌, List, [], ◌∷◌, length, drop, take, refl, sym, ap, ◌∙◌, arith, ◌==◌, one-add, get_or, ◌<◌, suc}
use Rattle.std.proofs.lemmas.Bool.Decides.{nat_tests}
use Rattle.ptk_asm_language.specs.Tokens.{is_first, is_letter, is_digit, is_run, is_blank, pieces}
use Rattle.ptk_asm_language.specs.Scanning.{after_blanks, run_len}

pub blank_no_run : (c : ℕ) → is_run c ≡ true → is_blank c ≡ false
unfolding is_run is_blank is_first is_letter is_digit
blank_no_run c h = grind (arith, nat_tests)

skip_step : (c : ℕ) (cs : List ℕ) (b : Bool) → is_blank c ≡ b → pieces (after_blanks cs) ≡ pieces cs → pieces (after_blanks (c ∷ cs)) ≡ pieces (c ∷ cs)
skip_step c cs true h before = rw h before
skip_step c cs false h before = simp h

pub pieces-after_blanks : (line : List ℕ) → pieces (after_blanks line) ≡ pieces line
pieces-after_blanks [] = refl
pieces-after_blanks (c ∷ cs) = skip_step c cs (is_blank c) refl (pieces-after_blanks cs)

head_step : (d : ℕ) (ds : List ℕ) (c : ℕ) (cs : List ℕ) (b : Bool) → is_blank d ≡ b → (after_blanks ds ≡ c ∷ cs → is_blank c ≡ false) → after_blanks (d ∷ ds) ≡ c ∷ cs → is_blank c ≡ false
head_step d ds c cs true h before e = before (rw h at e)
head_step d ds c cs false h before e = let f : d ∷ ds ≡ c ∷ cs = rw h at e in let g : d ≡ c = cc in rw (← g) h

pub after_blanks-head : (line : List ℕ) (c : ℕ) (cs : List ℕ) → after_blanks line ≡ c ∷ cs → is_blank c ≡ false
after_blanks-head [] c cs e = cc
after_blanks-head (d ∷ ds) c cs e = head_step d ds c cs (is_blank d) refl (after_blanks-head ds c cs) e

-- the piece that begins with c, which is no blank
front_step : (c d : ℕ) (ds : List ℕ) (b : Bool) → is_run d ≡ b → is_blank c ≡ false → (is_run c || c == 45) ≡ true
    → (is_run d ≡ true → pieces (d ∷ ds) ≡ take (suc (run_len ds)) (d ∷ ds) ∷ pieces (drop (run_len ds) ds))
    → pieces (c ∷ d ∷ ds) ≡ take (suc (run_len (d ∷ ds))) (c ∷ d ∷ ds) ∷ pieces (drop (run_len (d ∷ ds)) (d ∷ ds))
front_step c d ds true h blank run before =
    by_steps (pieces (d ∷ ds)) refl (before h)
  where
    by_steps : (p : List (List ℕ)) → pieces (d ∷ ds) ≡ p → p ≡ take (suc (run_len ds)) (d ∷ ds) ∷ pieces (drop (run_len ds) ds) → pieces (c ∷ d ∷ ds) ≡ take (suc (run_len (d ∷ ds))) (c ∷ d ∷ ds) ∷ pieces (drop (run_len (d ∷ ds)) (d ∷ ds))
    by_steps p e f = rw (blank, run) (rw e (rw h (rw f refl)))
front_step c d ds false h blank run before = simp (blank, run, h)

-- a run, or a - and a run, is a piece
pub pieces-front : (c : ℕ) (cs : List ℕ) → is_blank c ≡ false → (is_run c || c == 45) ≡ true → pieces (c ∷ cs) ≡ take (suc (run_len cs)) (c ∷ cs) ∷ pieces (drop (run_len cs) cs)
pieces-front c [] blank run = simp (blank, run)
pieces-front c (d ∷ ds) blank run =
    front_step c d ds (is_run d) refl blank run (λ h. pieces-front d ds (blank_no_run d h) (rw h refl))

-- another character is one alone
pub pieces-alone : (c : ℕ) (cs : List ℕ) → is_blank c ≡ false → (is_run c || c == 45) ≡ false → pieces (c ∷ cs) ≡ (c ∷ []) ∷ pieces cs
pieces-alone c cs blank run = simp (blank, run)

-- what a line begins with behind its blanks
pub pieces-run : (line rest : List ℕ) (n : ℕ) → rest ≡ after_blanks line → 0 < length rest → (is_run (get_or rest 0 0) || get_or rest 0 0 == 45) ≡ true → n ≡ run_len (drop 1 rest)
    → pieces line ≡ take (1 + n) rest ∷ pieces (drop (1 + n) rest)
pieces-run line [] n e some run m = absurd (omega arith)
pieces-run line (c ∷ cs) n e some run m =
    rw (m, one-add) (sym (pieces-after_blanks line) ∙ ap pieces (sym e) ∙ pieces-front c cs (after_blanks-head line c cs (sym e)) run)

pub pieces-mark : (line rest : List ℕ) → rest ≡ after_blanks line → 0 < length rest → (is_run (get_or rest 0 0) || get_or rest 0 0 == 45) ≡ false
    → pieces line ≡ take 1 rest ∷ pieces (drop 1 rest)
pieces-mark line [] e some run = absurd (omega arith)
pieces-mark line (c ∷ cs) e some run =
    sym (pieces-after_blanks line) ∙ ap pieces (sym e) ∙ pieces-alone c cs (after_blanks-head line c cs (sym e)) run

pub pieces-none : (line rest : List ℕ) → rest ≡ after_blanks line → length rest ≡ 0 → pieces line ≡ []
pieces-none line [] e none = sym (pieces-after_blanks line) ∙ ap pieces (sym e)
pieces-none line (c ∷ cs) e none = absurd (omega arith)
