-- Lists by partition: one list for each, in order.
use Rattle.std.specs.Prelude.{ℕ, List, [], ◌∷◌, ◌++◌, replicate, slice_index_or}

-- the list of a partition, empty past the last
abbrev pub part_of : {X : Type 0} → List (List X) → ℕ → List X
part_of parts p = slice_index_or parts p []

-- the lists, one after another
abbrev pub joined : {X : Type 0} → List (List X) → List X
joined [] = []
joined (part ∷ parts) = part ++ joined parts

-- n times x
abbrev pub filled : {X : Type 0} → X → ℕ → List X
filled x n = replicate n x
