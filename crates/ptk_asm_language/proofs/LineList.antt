-- The lines of a text, one after the other.
use Rattle.std.proofs.Common.{◌≡◌, ℕ, ◌+◌, ◌<◌, Bool, true, false, List, [], ◌∷◌, length, drop, take, get_or, refl, sym, arith, suc, add-one, one-add, drop-cons, ◌==◌}
use Rattle.std.proofs.lemmas.Bool.Decides.{nat_tests}
use Rattle.ptk_asm_language.specs.Lines.{raw_lines}
use Rattle.ptk_asm_language.specs.Scanning.{line_len}

line_step : (c : ℕ) (cs : List ℕ) (b : Bool) → (c == 10) ≡ b
    → (b ≡ false → 0 < length cs → raw_lines cs ≡ take (line_len cs) cs ∷ raw_lines (drop (line_len cs) cs))
    → raw_lines (c ∷ cs) ≡ take (line_len (c ∷ cs)) (c ∷ cs) ∷ raw_lines (drop (line_len (c ∷ cs)) (c ∷ cs))
line_step c cs true h before = simp h
line_step c [] false h before = simp h
line_step c (d ∷ ds) false h before = rw h (rw (before refl (omega arith)) refl)

-- the first line, and the lines behind it
pub raw_lines_front : (text : List ℕ) → 0 < length text → raw_lines text ≡ take (line_len text) text ∷ raw_lines (drop (line_len text) text)
raw_lines_front [] some = absurd (omega arith)
raw_lines_front (c ∷ cs) some = line_step c cs (c == 10) refl (λ _ h. raw_lines_front cs h)

pub line_len_end : (s : List ℕ) (i : ℕ) → i < length s → get_or s i 0 ≡ 10 → line_len (drop i s) ≡ 1
line_len_end s i inside e = rw (drop-cons s i 0 inside, e) refl

pub line_len_more : (s : List ℕ) (i : ℕ) → i < length s → (get_or s i 0 ≡ 10 → ⊥) → line_len (drop i s) ≡ 1 + line_len (drop (i + 1) s)
line_len_more s i inside e =
    let test : (get_or s i 0 == 10) ≡ false = grind (arith, nat_tests) in
    rw (drop-cons s i 0 inside, add-one, test) (sym (one-add (line_len (drop (suc i) s))))
