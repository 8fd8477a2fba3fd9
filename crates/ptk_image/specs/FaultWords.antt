-- The words of an image's fault.
use Rattle.std.specs.Prelude.{ℕ, List, codes}
use Rattle.ptk_words.specs.declared.faults.ImageFault.{ImageFault}
use Rattle.ptk_words.specs.declared.faults.ImageFault.TheVariants as image

-- why bytes are no image, or one that does not fit (own)
abbrev pub image_fault_words : ImageFault → List ℕ
image_fault_words image.Short = codes "the image is shorter than its header"
image_fault_words image.Magic = codes "the image does not begin with PTKI"
image_fault_words image.Version = codes "the image has an unknown version"
image_fault_words image.Length = codes "the image has other lengths than its header says"
image_fault_words image.Entry = codes "the entry of the image is misplaced"
image_fault_words image.Memory = codes "out of memory"
image_fault_words image.Unfit = codes "the image does not fit into its partition"
