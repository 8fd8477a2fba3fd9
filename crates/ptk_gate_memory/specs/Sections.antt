-- Lists made for each section of a configuration.
use Rattle.std.specs.Prelude.{ℕ, List, map, replicate}
use Rattle.ptk_words.specs.declared.sections.Limits.{Limits}

-- for each section a list of as many entries as its count
abbrev pub per_section : {A : Type 0} → (Limits → ℕ) → A → List Limits → List (List A)
per_section count a limits = map (λ l. replicate (count l) a) limits
