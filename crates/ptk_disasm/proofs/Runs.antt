-- A run, or a - and a run, is the first piece.
use Rattle.std.proofs.Common.{◌≡◌, ℕ, ◌<◌, Bool, true, false, ◌||◌, List, [], ◌∷◌, ◌++◌, length, take, drop, suc, refl, ap, ◌∙◌, arith, ◌==◌}
use Rattle.std.specs.List.{list_all}
use Rattle.std.proofs.Math.Seq.{drop-append_seam, take-append_seam}
use Rattle.std.proofs.lemmas.Bool.{and_parts}
use Rattle.ptk_asm_language.specs.Tokens.{is_run, is_blank, starts_run, pieces}
use Rattle.ptk_asm_language.specs.Scanning.{run_len}
use Rattle.ptk_asm_language.proofs.Pieces.{blank_no_run, pieces-front}

none_len : (rest : List ℕ) → starts_run rest ≡ false → run_len rest ≡ 0
none_len [] h = refl
none_len (c ∷ cs) h = rw h refl

pub run_length : (run rest : List ℕ) → list_all is_run run ≡ true → starts_run rest ≡ false → run_len (run ++ rest) ≡ length run
run_length [] rest all ends = none_len rest ends
run_length (c ∷ cs) rest all ends =
    let parts = and_parts (is_run c) (list_all is_run cs) all in
    rw parts.0 (ap suc (run_length cs rest parts.1 ends))

-- a character of runs or a -, and a run
pub pieces-begun : (c : ℕ) (run rest : List ℕ) → is_blank c ≡ false → (is_run c || c == 45) ≡ true → list_all is_run run ≡ true → starts_run rest ≡ false
    → pieces (c ∷ run ++ rest) ≡ (c ∷ run) ∷ pieces rest
pieces-begun c run rest blank begins all ends =
    pieces-front c (run ++ rest) blank begins
    ∙ ap (λ (n : ℕ). (c ∷ take n (run ++ rest)) ∷ pieces (drop n (run ++ rest))) (run_length run rest all ends)
    ∙ ap (λ (t : List ℕ). (c ∷ t) ∷ pieces (drop (length run) (run ++ rest))) (take-append_seam run rest)
    ∙ ap (λ (t : List ℕ). (c ∷ run) ∷ pieces t) (drop-append_seam run rest)

-- a run
pub pieces-of_run : (run rest : List ℕ) → list_all is_run run ≡ true → 0 < length run → starts_run rest ≡ false → pieces (run ++ rest) ≡ run ∷ pieces rest
pieces-of_run [] rest all some ends = absurd (omega arith)
pieces-of_run (c ∷ cs) rest all some ends =
    let parts = and_parts (is_run c) (list_all is_run cs) all in
    pieces-begun c cs rest (blank_no_run c parts.0) (rw parts.0 refl) parts.1 ends

-- a - and a run
pub pieces-of_minus : (run rest : List ℕ) → list_all is_run run ≡ true → starts_run rest ≡ false → pieces (45 ∷ run ++ rest) ≡ (45 ∷ run) ∷ pieces rest
unfolding is_blank
pieces-of_minus run rest all ends = pieces-begun 45 run rest refl (minus_begins (is_run 45)) all ends
  where
    minus_begins : (b : Bool) → (b || 45 == 45) ≡ true
    minus_begins true = refl
    minus_begins false = refl
