-- Why boot refuses an image.
use Rattle.std.specs.Prelude.{ℕ, List, Option, Some, None, Result, Ok, Err, if◌then◌else◌}
use Rattle.ptk_words.specs.Image.{ImageParts, image_of}
use Rattle.ptk_words.specs.declared.faults.ImageFault.{ImageFault}
use Rattle.ptk_words.specs.declared.faults.ImageFault.TheVariants.{Unfit}
use Rattle.ptk_words.specs.declared.sections.Limits.{Limits}
use Rattle.ptk_words_model.specs.Run.{fits}

-- the fault of bytes that are no image, or of an image that does not fit (own)
abbrev pub refusal_of_parts : Limits → Result ImageParts ImageFault → Option ImageFault
refusal_of_parts limits (Err fault) = Some fault
refusal_of_parts limits (Ok parts) = if fits limits parts then None else Some Unfit

-- why these bytes are refused under these numbers; no image is never refused (own)
abbrev pub refusal_of : Limits → Option (List ℕ) → Option ImageFault
refusal_of limits None = None
refusal_of limits (Some bytes) = refusal_of_parts limits (image_of bytes)
