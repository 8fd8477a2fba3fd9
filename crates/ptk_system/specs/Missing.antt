-- The images that a configuration names, and the files that have them.
use Rattle.std.specs.Prelude.{ℕ, Bool, ◌&&◌, List, Option, Some, None, option_and_then, is_some, is_none, position}
use Rattle.ptk_config.specs.Sections.{Section}
use Rattle.ptk_image.specs.NamedFiles.{NamedFile, content_of}
use Rattle.ptk_system.specs.declared.fault.BootFault.{BootFault}
use Rattle.ptk_system.specs.declared.fault.BootFault.TheVariants.{Memory, MissingFile}

-- the bytes of the image of this name, None where there is no name
abbrev pub image_in : List NamedFile → Option (List ℕ) → Option (List ℕ)
image_in files image = option_and_then (content_of files) image

-- the section names an image and no file has the name
abbrev pub is_missing : List NamedFile → Section → Bool
is_missing files section = is_some section.image && is_none (image_in files section.image)

-- the first section, in their order, whose file is missing
abbrev pub first_missing : List NamedFile → List Section → Option ℕ
first_missing files sections = position (is_missing files) sections

-- the section that a refusal names
abbrev pub missing_in : BootFault → Option ℕ
missing_in Memory = None
missing_in (MissingFile p) = Some p
