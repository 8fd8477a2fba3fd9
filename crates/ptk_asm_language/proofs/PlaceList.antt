-- The bytes of the pieces of a line, from its front.
use Rattle.std.proofs.Common.{◌≡◌, ℕ, ◌+◌, ◌<◌, Bool, true, false, ◌||◌, List, [], ◌∷◌, ◌++◌, Some, None, length, drop, refl, sym, ap, ◌∙◌, arith, ◌==◌, one-add, get_or, append_assoc}
use Rattle.std.proofs.lemmas.List.{append-nil, map-append}
use Rattle.ptk_asm_language.specs.declared.token.Spanned.{Spanned}
use Rattle.ptk_asm_language.specs.declared.place.Extent.{Extent}
use Rattle.ptk_asm_language.specs.Tokens.{Token, is_run, is_blank, pieces, token}
use Rattle.ptk_asm_language.specs.Places.{behind_pieces, extent_of, extents_of, first_wrong, whole_extent}
use Rattle.ptk_asm_language.specs.Reading.{spot, spots}
use Rattle.ptk_asm_language.specs.Scanning.{after_blanks, run_len}
use Rattle.ptk_asm_language.proofs.Pieces.{blank_no_run, after_blanks-head}

skip_step : (c : ℕ) (cs : List ℕ) (b : Bool) → is_blank c ≡ b → behind_pieces (after_blanks cs) ≡ behind_pieces cs → behind_pieces (after_blanks (c ∷ cs)) ≡ behind_pieces (c ∷ cs)
skip_step c cs true h before = rw h before
skip_step c cs false h before = simp h

behind-after_blanks : (line : List ℕ) → behind_pieces (after_blanks line) ≡ behind_pieces line
behind-after_blanks [] = refl
behind-after_blanks (c ∷ cs) = skip_step c cs (is_blank c) refl (behind-after_blanks cs)

front_step : (c d : ℕ) (ds : List ℕ) (b : Bool) → is_run d ≡ b → is_blank c ≡ false → (is_run c || c == 45) ≡ true
    → (is_run d ≡ true → behind_pieces (d ∷ ds) ≡ drop (run_len ds) ds ∷ behind_pieces (drop (run_len ds) ds))
    → behind_pieces (c ∷ d ∷ ds) ≡ drop (run_len (d ∷ ds)) (d ∷ ds) ∷ behind_pieces (drop (run_len (d ∷ ds)) (d ∷ ds))
front_step c d ds true h blank run before =
    by_steps (behind_pieces (d ∷ ds)) refl (before h)
  where
    by_steps : (p : List (List ℕ)) → behind_pieces (d ∷ ds) ≡ p → p ≡ drop (run_len ds) ds ∷ behind_pieces (drop (run_len ds) ds) → behind_pieces (c ∷ d ∷ ds) ≡ drop (run_len (d ∷ ds)) (d ∷ ds) ∷ behind_pieces (drop (run_len (d ∷ ds)) (d ∷ ds))
    by_steps p e f = rw (blank, run) (rw e (rw h f))
front_step c d ds false h blank run before = simp (blank, run, h)

-- behind a run, or a - and a run
behind-front : (c : ℕ) (cs : List ℕ) → is_blank c ≡ false → (is_run c || c == 45) ≡ true → behind_pieces (c ∷ cs) ≡ drop (run_len cs) cs ∷ behind_pieces (drop (run_len cs) cs)
behind-front c [] blank run = simp (blank, run)
behind-front c (d ∷ ds) blank run =
    front_step c d ds (is_run d) refl blank run (λ h. behind-front d ds (blank_no_run d h) (rw h refl))

-- behind another character
behind-alone : (c : ℕ) (cs : List ℕ) → is_blank c ≡ false → (is_run c || c == 45) ≡ false → behind_pieces (c ∷ cs) ≡ cs ∷ behind_pieces cs
behind-alone c cs blank run = simp (blank, run)

-- behind what a line begins with behind its blanks
pub behind-run : (line rest : List ℕ) (n : ℕ) → rest ≡ after_blanks line → 0 < length rest → (is_run (get_or rest 0 0) || get_or rest 0 0 == 45) ≡ true → n ≡ run_len (drop 1 rest)
    → behind_pieces line ≡ drop (1 + n) rest ∷ behind_pieces (drop (1 + n) rest)
behind-run line [] n e some run m = absurd (omega arith)
behind-run line (c ∷ cs) n e some run m =
    rw (m, one-add) (sym (behind-after_blanks line) ∙ ap behind_pieces (sym e) ∙ behind-front c cs (after_blanks-head line c cs (sym e)) run)

pub behind-mark : (line rest : List ℕ) → rest ≡ after_blanks line → 0 < length rest → (is_run (get_or rest 0 0) || get_or rest 0 0 == 45) ≡ false
    → behind_pieces line ≡ drop 1 rest ∷ behind_pieces (drop 1 rest)
behind-mark line [] e some run = absurd (omega arith)
behind-mark line (c ∷ cs) e some run =
    sym (behind-after_blanks line) ∙ ap behind_pieces (sym e) ∙ behind-alone c cs (after_blanks-head line c cs (sym e)) run

-- ---- the code's tokens

-- a token more
pub places_push : (front : List Spanned) (s : Spanned) (line rest after piece : List ℕ) → pieces rest ≡ piece ∷ pieces after → behind_pieces rest ≡ after ∷ behind_pieces after → spot s ≡ extent_of line piece after
    → spots (front ++ s ∷ []) ++ extents_of line (pieces after) (behind_pieces after) ≡ spots front ++ extents_of line (pieces rest) (behind_pieces rest)
places_push front s line rest after piece e f g =
    ap (λ (xs : List Extent). xs ++ extents_of line (pieces after) (behind_pieces after)) (map-append spot front (s ∷ []))
    ∙ append_assoc (spots front) (spot s ∷ []) (extents_of line (pieces after) (behind_pieces after))
    ∙ ap (λ (x : Extent). spots front ++ (x ∷ extents_of line (pieces after) (behind_pieces after))) g
    ∙ sym (ap (λ (ps : List (List ℕ)). spots front ++ extents_of line ps (behind_pieces rest)) e
    ∙ ap (λ (rs : List (List ℕ)). spots front ++ extents_of line (piece ∷ pieces after) rs) f)

-- no piece
pub places_end : (front : List Spanned) (line rest : List ℕ) → pieces rest ≡ [] → spots front ++ extents_of line (pieces rest) (behind_pieces rest) ≡ spots front
places_end front line rest e =
    ap (λ (ps : List (List ℕ)). spots front ++ extents_of line ps (behind_pieces rest)) e ∙ append-nil (spots front)

-- a piece that is a token
pub wrong_pass : (t : Token) (line rest after piece : List ℕ) → pieces rest ≡ piece ∷ pieces after → behind_pieces rest ≡ after ∷ behind_pieces after → Some t ≡ token piece
    → first_wrong line (pieces after) (behind_pieces after) ≡ first_wrong line (pieces rest) (behind_pieces rest)
wrong_pass t line rest after piece e f g = rw (e, f, ← g) refl

-- a piece that is none
pub wrong_stop : (line rest after piece : List ℕ) → pieces rest ≡ piece ∷ pieces after → behind_pieces rest ≡ after ∷ behind_pieces after → None ≡ token piece
    → first_wrong line (pieces rest) (behind_pieces rest) ≡ whole_extent line piece after
wrong_stop line rest after piece e f g = rw (e, f, ← g) refl

-- what one more piece gives
pub ruleset place_rules = (places_push, places_end, wrong_pass, wrong_stop)
