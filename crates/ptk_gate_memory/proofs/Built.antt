-- Lists made for each section.
use Rattle.std.proofs.Common.{◌≡◌, ℕ, List, [], ◌∷◌, map, refl, ap}
use Rattle.std.specs.Prelude.{replicate}
use Rattle.std.proofs.lemmas.List.{length-map}
use Rattle.ptk_words.specs.declared.sections.Limits.{Limits}
use Rattle.ptk_words.specs.Parts.{filled}
use Rattle.ptk_gate_memory.specs.Sections.{per_section}

pub filled_per : {A : Type 0} (count : Limits → ℕ) (a : A) (limits : List Limits) → map (filled a) (map count limits) ≡ per_section count a limits
filled_per count a [] = refl
filled_per count a (l ∷ ls) = ap (λ rows. replicate (count l) a ∷ rows) (filled_per count a ls)

pub ruleset built = (filled_per, length-map)
