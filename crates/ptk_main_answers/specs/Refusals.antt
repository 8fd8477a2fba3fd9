-- Why a request over a configuration and files is refused, as the program's faults.
use Rattle.std.specs.Prelude.{◌≡◌, ◌≢◌, ℕ, List, Option, Some, None, option_map, option_and_then}
use Rattle.ptk_config.specs.Configuration.{Configuration}
use Rattle.ptk_image.specs.NamedFiles.{NamedFile}
use Rattle.ptk_main_runs.specs.Missing.{first_missing}
use Rattle.ptk_main_runs.specs.BootFault.{BootFault}
use Rattle.ptk_main_runs.specs.BootFault.TheVariants as boot
use Rattle.ptk_main_tools.specs.declared.fault.Fault.{Fault}
use Rattle.ptk_main_tools.specs.declared.fault.Fault.TheVariants.{MissingFile, NoPartition, WriteFailed, NoMemory}
use Rattle.ptk_main_tools.specs.Numbers.{image_fault}
use Rattle.ptk_main_tools.specs.Told.{text, told}
use Rattle.ptk_main_runs.specs.declared.runs.RunFault.{RunFault}
use Rattle.ptk_main_runs.specs.declared.runs.RunFault.TheVariants as run
use Rattle.ptk_main_answers.specs.Images.{first_refused, image_name, image_refusal}
use Rattle.ptk_main_runs.specs.World.{section_at}

-- ---- faults of the layers below

-- the program's fault for that of a boot (own)
abbrev pub boot_fault : Configuration → BootFault → Fault
boot_fault config boot.Memory = NoMemory
boot_fault config (boot.MissingFile p) = MissingFile (text (image_name config p))

-- the program's fault for that of a run, if the partition of this name was asked for (own)
abbrev pub run_fault : Configuration → List ℕ → RunFault → Fault
run_fault config name (run.Boot fault) = boot_fault config fault
run_fault config name run.NoPartition = NoPartition (text name)
run_fault config name run.Write = WriteFailed

-- ---- what is refused

-- the first image whose file is missing (own)
abbrev pub missing_image : Configuration → List NamedFile → Option Fault
missing_image config files = option_map (λ p. MissingFile (text (image_name config p))) (first_missing files config.sections)

-- the fault of a partition's image (own)
abbrev pub refused_image_at : Configuration → List NamedFile → ℕ → Option Fault
refused_image_at config files p = option_map (image_fault (text (image_name config p))) (image_refusal files (section_at config p))

-- the first image that is refused (own)
abbrev pub refused_image : Configuration → List NamedFile → Option Fault
refused_image config files = option_and_then (refused_image_at config files) (first_refused files config.sections)

-- no partition has the name; else the first image whose file is missing (own)
abbrev pub refused_trace : Option ℕ → Configuration → List NamedFile → List ℕ → Option Fault
refused_trace None config files name = Some (NoPartition (text name))
refused_trace (Some p) config files name = missing_image config files

-- a fault by what is lacking and by the refusal: that memory ran out is said only if nothing is lacking, a failed write only if nothing is refused, and any other fault is the refusal's (own)
pub record IsFaultOf (lack refusal : Option Fault) (fault : Fault) : Type 0 where
  pub memory : fault ≡ NoMemory → lack ≡ None
  pub write : fault ≡ WriteFailed → refusal ≡ None
  pub other : fault ≢ NoMemory → fault ≢ WriteFailed → refusal ≡ Some (told fault)
