-- The lines of a source.
use Rattle.std.specs.Prelude.{ℕ, List, [], ◌∷◌, take_while, not, ◌==◌, if◌then◌else◌}

-- the lines with this character before the first of them (own)
abbrev pub onto_first : ℕ → List (List ℕ) → List (List ℕ)
onto_first c [] = (c ∷ []) ∷ []
onto_first c (line ∷ lines) = (c ∷ line) ∷ lines

-- the lines of a text, each with its LF, which the last may lack (own)
abbrev pub raw_lines : List ℕ → List (List ℕ)
raw_lines [] = []
raw_lines (c ∷ cs) = if c == 10 then (c ∷ []) ∷ raw_lines cs else onto_first c (raw_lines cs)

-- a line without its LF, and without a CR just before it (own)
abbrev pub without_ending : List ℕ → List ℕ
without_ending [] = []
without_ending (c ∷ []) = if c == 10 then [] else c ∷ []
without_ending (c ∷ d ∷ []) = if d == 10 then (if c == 13 then [] else c ∷ []) else c ∷ d ∷ []
without_ending (c ∷ d ∷ e ∷ cs) = c ∷ without_ending (d ∷ e ∷ cs)

-- what stands before the first # (own)
abbrev pub without_comment : List ℕ → List ℕ
without_comment line = take_while (λ c. not (c == 35)) line

-- a line without its ending and its comment (own)
abbrev pub code_of : List ℕ → List ℕ
code_of line = without_comment (without_ending line)
