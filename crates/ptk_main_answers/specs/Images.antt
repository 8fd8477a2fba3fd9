-- The images of a configuration, and why one is refused.
use Rattle.std.specs.Prelude.{ℕ, Bool, List, [], Option, Some, None, is_some, position, unwrap_or}
use Rattle.ptk_words.specs.declared.faults.ImageFault.{ImageFault}
use Rattle.ptk_config.specs.Sections.{Section}
use Rattle.ptk_config.specs.Configuration.{Configuration}
use Rattle.ptk_image.specs.NamedFiles.{NamedFile}
use Rattle.ptk_main_runs.specs.Missing.{image_in}
use Rattle.ptk_main_runs.specs.Refused.{refusal_of}
use Rattle.ptk_main_runs.specs.World.{section_at}
use Rattle.ptk_main_runs.specs.PartStatus.{PartStatus}
use Rattle.ptk_main_runs.specs.PartStatus.TheVariants as status

-- the name of a partition's image, empty if it has none
abbrev pub image_name : Configuration → ℕ → List ℕ
image_name config p = unwrap_or (section_at config p).image []

-- the name of a partition, empty past the last
abbrev pub part_name : Configuration → ℕ → List ℕ
part_name config p = (section_at config p).name

-- why a section's image is refused
abbrev pub image_refusal : List NamedFile → Section → Option ImageFault
image_refusal files section = refusal_of section.limits (image_in files section.image)

-- whether a section's image is refused
abbrev pub is_refused : List NamedFile → Section → Bool
is_refused files section = is_some (image_refusal files section)

-- the first section, in their order, whose image is refused
abbrev pub first_refused : List NamedFile → List Section → Option ℕ
first_refused files sections = position (is_refused files) sections

-- the fault of an image by the status of its partition, if it was refused
abbrev pub refusal_in : PartStatus → Option ImageFault
refusal_in status.Idle = None
refusal_in status.Running = None
refusal_in (status.Exited code) = None
refusal_in (status.Stopped cause pc) = None
refusal_in (status.Refused fault) = Some fault
