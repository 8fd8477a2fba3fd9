-- The bytes at fault lie within their line.
use Rattle.std.proofs.Common.{◌≡◌, ℕ, ◌≤◌, Bool, true, false, length, get_or, arith, List, [], ◌∷◌, Some, None, Option, zero, suc, refl}
use Rattle.std.proofs.lemmas.Grind.{common_steps}
use Rattle.ptk_asm_language.specs.declared.place.Extent.{Extent}
use Rattle.ptk_asm_language.specs.Lines.{without_ending, code_of}
use Rattle.ptk_asm_language.specs.Tokens.{Token, pieces, token, tokens_of}
use Rattle.ptk_asm_language.specs.Places.{behind_pieces, extent_of, extents_of, places_of, is_continuation, behind_character, whole_extent, first_wrong, nowhere, end_at, last_place}
use Rattle.ptk_asm_language.specs.Source.{tokens_place, line_place, labels_after, place_after}

-- the bytes lie within a length
pub record IsInside (x : Extent) (n : ℕ) : Type 0 where
  pub ordered : x.from ≤ x.to
  pub within : x.to ≤ n

extent-inside : (line piece rest : List ℕ) → IsInside (extent_of line piece rest) (length line)
extent-inside line piece rest = record { ordered = omega arith; within = omega arith }

get-inside : (line : List ℕ) (ps rs : List (List ℕ)) (i : ℕ) (d : Extent) → IsInside d (length line) → IsInside (get_or (extents_of line ps rs) i d) (length line)
get-inside line [] rs i d h = h
get-inside line (p ∷ ps) [] i d h = h
get-inside line (p ∷ ps) (r ∷ rs) zero d h = extent-inside line p r
get-inside line (p ∷ ps) (r ∷ rs) (suc i) d h = get-inside line ps rs i d h

character_step : (c : ℕ) (cs : List ℕ) (b : Bool) → is_continuation c ≡ b → length (behind_character cs) ≤ length cs → length (behind_character (c ∷ cs)) ≤ length (c ∷ cs)
character_step c cs true h before = rw h (omega arith)
character_step c cs false h before = rw h (omega arith)

character-shorter : (rest : List ℕ) → length (behind_character rest) ≤ length rest
character-shorter [] = omega arith
character-shorter (c ∷ cs) = character_step c cs (is_continuation c) refl (character-shorter cs)

whole-inside : (line piece rest : List ℕ) → IsInside (whole_extent line piece rest) (length line)
whole-inside line piece rest =
    let shorter : length (behind_character rest) ≤ length rest = character-shorter rest in
    record { ordered = omega arith; within = omega arith }

nowhere-inside : (n : ℕ) → IsInside nowhere n
nowhere-inside n = record { ordered = omega arith; within = omega arith }

end-inside : (n : ℕ) → IsInside (end_at n) n
end-inside n = record { ordered = omega arith; within = omega arith }

wrong_step : (line piece rest : List ℕ) (ps rs : List (List ℕ)) (o : Option Token) → token piece ≡ o → IsInside (first_wrong line ps rs) (length line) → IsInside (first_wrong line (piece ∷ ps) (rest ∷ rs)) (length line)
wrong_step line piece rest ps rs (Some t) h before = rw h before
wrong_step line piece rest ps rs None h before = rw h (whole-inside line piece rest)

wrong-inside : (line : List ℕ) (ps rs : List (List ℕ)) → IsInside (first_wrong line ps rs) (length line)
wrong-inside line [] rs = nowhere-inside (length line)
wrong-inside line (p ∷ ps) [] = nowhere-inside (length line)
wrong-inside line (p ∷ ps) (r ∷ rs) = wrong_step line p r ps rs (token p) refl (wrong-inside line ps rs)

-- the last token of a line's code lies in it
pub last-inside : (code : List ℕ) → IsInside (last_place (places_of code)) (length code)
last-inside code = get-inside code (pieces code) (behind_pieces code) _ nowhere (nowhere-inside (length code))

tokens-inside : (before : List (List ℕ)) (code : List ℕ) (o : Option (List Token)) → IsInside (tokens_place (labels_after before) (place_after before) code o) (length code)
tokens-inside before code None = wrong-inside code (pieces code) (behind_pieces code)
tokens-inside before code (Some ts) = get-inside code (pieces code) (behind_pieces code) _ (end_at (length code)) (end-inside (length code))

-- a line's code is no longer than the line
pub code-shorter : (line : List ℕ) → length (code_of line) ≤ length (without_ending line)
code-shorter line = grind (arith, common_steps)

inside_more : (x : Extent) (n m : ℕ) → n ≤ m → IsInside x n → IsInside x m
inside_more x n m h is = let w : x.to ≤ n = is.within in record { ordered = is.ordered; within = omega arith }

-- the bytes at fault in a line lie in it
pub line-inside : (before : List (List ℕ)) (line : List ℕ) → IsInside (line_place before line) (length (without_ending line))
line-inside before line =
    inside_more _ (length (code_of line)) _ (code-shorter line) (tokens-inside before (code_of line) (tokens_of (code_of line)))
