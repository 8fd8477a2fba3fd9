-- The partitions of a configuration by name.
use Rattle.std.specs.Prelude.{ℕ, Bool, true, List, Option, Some, None, position}
use Rattle.std.specs.Borrow.{Bor}
use Rattle.std.specs.Str.{bytes_eq}
use Rattle.ptk_config.specs.Configuration.{Configuration}

-- the number of the first section of a name, which is the partition's, None where no section has it
abbrev pub part_named : Configuration → List ℕ → Option ℕ
part_named config name = position (λ section. bytes_eq section.name name) config.sections

-- the partition of this name is asked for: each is where no name is asked for (own)
abbrev pub is_asked : Option (Bor (List ℕ)) → List ℕ → Bool
is_asked None name = true
is_asked (Some asked) name = bytes_eq name asked.now
