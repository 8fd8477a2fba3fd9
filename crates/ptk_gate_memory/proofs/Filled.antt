-- Memory that is filled from its start.
use Rattle.std.proofs.Common.{arith, ◌≡◌, ℕ, ◌+◌, ◌-◌, List, ◌++◌, length, drop, refl, ◌∙◌, ap}
use Rattle.std.proofs.Math.Seq.{drop-append_seam}
use Rattle.std.proofs.lemmas.List.{take_at, drop-drop}
use borrow.Rule.Slice.PartMut.{put_mid}

-- a part from the start, and then one after it
pub filled_twice : (text initial memory first second : List ℕ) → first ≡ text → second ≡ initial
    → put_mid (length text) (length text + length initial - length text) (first ++ drop (length text) memory) second ≡ text ++ (initial ++ drop (length text + length initial) memory)
filled_twice text initial memory first second e f =
    let rest : length text + length initial - length text ≡ length initial = omega arith in
    let before : List ℕ = text ++ drop (length text) memory in
    rw (e, f, rest) (
    ap (λ xs. xs ++ (initial ++ drop (length initial) (drop (length text) before))) (take_at text (drop (length text) memory) (length text) refl)
    ∙ ap (λ xs. text ++ (initial ++ drop (length initial) xs)) (drop-append_seam text (drop (length text) memory))
    ∙ ap (λ xs. text ++ (initial ++ xs)) (drop-drop (length initial) (length text) memory))

pub ruleset filled = (filled_twice)
