-- Whether there is the partition that is asked for.
use Rattle.std.specs.Prelude.{ℕ, List, Option, Some, None, IsSome}
use denote.Ref.{Bor}
use Rattle.ptk_config.specs.Configuration.{Configuration}
use Rattle.ptk_main_runs.specs.Parts.{part_named}

-- a partition has the name that is asked for, or none is asked for (own)
abbrev pub IsAsked : Configuration → Option (Bor (List ℕ)) → Type 0
IsAsked config None = Unit {0}
IsAsked config (Some name) = IsSome (part_named config name.now)
