-- Why a picture and the figures of a run are refused.
use Rattle.std.specs.Prelude.{ℕ, List, Option, Some, if◌then◌else◌, nat_le, nat_lt}
use Rattle.std.specs.Option.{option_map_or}
use Rattle.std.specs.Borrow.{Bor}
use Rattle.ptk_config.specs.Configuration.{Configuration}
use Rattle.ptk_image.specs.NamedFiles.{NamedFile}
use Rattle.ptk_main_tools.specs.declared.fault.Fault.{Fault}
use Rattle.ptk_main_tools.specs.declared.fault.Fault.TheVariants.{NothingFrom}
use Rattle.ptk_main_answers.specs.Parts.{part_named}
use Rattle.ptk_main_answers.specs.Refusals.{missing_image, refused_trace}

-- there is no tick to show; else the first image whose file is missing (own)
abbrev pub refused_picture : Configuration → List NamedFile → ℕ → ℕ → Option Fault
refused_picture config files from to = if nat_le to from then Some (NothingFrom from) else missing_image config files

-- the run ends before the first tick that counts; else no partition has the name that is asked for, or an image's file is missing (own)
abbrev pub refused_figures : Configuration → List NamedFile → ℕ → ℕ → Option (Bor (List ℕ)) → Option Fault
refused_figures config files from to name =
    if nat_lt to from then Some (NothingFrom from)
    else option_map_or (λ word. refused_trace (part_named config word.now) config files word.now) name (missing_image config files)
