-- Zeros behind a list.
use Rattle.std.proofs.Common.{◌≡◌, ℕ, ◌+◌, List, [], ◌∷◌, ◌++◌, replicate, ap, ◌∙◌, append_assoc}
use Rattle.std.proofs.lemmas.List.{replicate-append-replicate}

-- a zero more
pub zeros_more : (xs : List ℕ) (n : ℕ) → (xs ++ replicate n 0) ++ 0 ∷ [] ≡ xs ++ replicate (n + 1) 0
zeros_more xs n = append_assoc xs (replicate n 0) (0 ∷ []) ∙ ap (λ (ys : List ℕ). xs ++ ys) (replicate-append-replicate n 1 0)
