-- Numbers in the order of their stamps.
use Rattle.std.specs.Prelude.{ℕ, ℤ, int_lt, List, [], ◌∷◌, if◌then◌else◌}

-- the list with k before its first number of a greater stamp
abbrev pub placed : (ℕ → ℤ) → ℕ → List ℕ → List ℕ
placed stamp k [] = k ∷ []
placed stamp k (j ∷ js) = if int_lt (stamp k) (stamp j) then k ∷ j ∷ js else j ∷ placed stamp k js

-- the numbers in ascending order of their stamps
abbrev pub in_order : (ℕ → ℤ) → List ℕ → List ℕ
in_order stamp [] = []
in_order stamp (k ∷ ks) = placed stamp k (in_order stamp ks)
