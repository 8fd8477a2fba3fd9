-- Which fault of a question for an impact comes first.
use Rattle.std.specs.Prelude.{◌≡◌, ℕ, List, Option, Some, None, option_and_then}
use Rattle.std.specs.Option.{option_or}
use Rattle.ptk_main_runs.specs.Missing.{first_missing}
use Rattle.ptk_main_runs.specs.World.{section_at}
use Rattle.ptk_main_tools.specs.declared.fault.Fault.{Fault}
use Rattle.ptk_main_tools.specs.declared.fault.Fault.TheVariants.{MissingFile, NoPartition, NoMemory, WriteFailed}
use Rattle.ptk_impact_answers.specs.declared.release.Release.{Release}

-- the name of the first image, in the order of the sections, that no file has (own)
abbrev pub missing_image : Release → Option (List ℕ)
missing_image release =
    option_and_then (λ p. (section_at release.config.now p).image) (first_missing release.files.now release.config.now.sections)

-- the first missing image, those of the old configuration before those of the new one (own)
abbrev pub missing_of : Release → Release → Option (List ℕ)
missing_of old new = option_or (missing_image old) (missing_image new)

-- it names the first missing image; or none is missing, and it names what is no partition or is a failed writer; or memory ran out (own)
abbrev pub IsFirstFault : Option (List ℕ) → Fault → Type 0
IsFirstFault missing (MissingFile name) = missing ≡ Some name.now
IsFirstFault missing (NoPartition name) = missing ≡ None
IsFirstFault missing WriteFailed = missing ≡ None
IsFirstFault missing NoMemory = Unit {0}
IsFirstFault missing _ = ⊥
