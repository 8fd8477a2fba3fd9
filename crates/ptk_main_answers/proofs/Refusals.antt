-- A refused image as the fault of a check.
use Rattle.std.proofs.Common.{◌≡◌, ◌∙◌, ℕ, List, Option, Some, None, sym, ap}
use Rattle.std.specs.Prelude.{◌≢◌, option_map, option_and_then}
use Rattle.std.specs.Option.{option_or}
use Rattle.std.specs.Borrow.{Bor}
use Rattle.ptk_words.specs.declared.faults.ImageFault.{ImageFault}
use Rattle.ptk_words.specs.declared.faults.ImageFault.TheVariants as image
use Rattle.ptk_config.specs.Configuration.{Configuration}
use Rattle.ptk_image.specs.NamedFiles.{NamedFile}
use Rattle.ptk_main_runs.specs.Missing.{first_missing}
use Rattle.ptk_main_runs.specs.World.{section_at}
use Rattle.ptk_main_tools.specs.declared.fault.Fault.{Fault}
use Rattle.ptk_main_tools.specs.declared.fault.Fault.TheVariants.{MissingFile, WriteFailed}
use Rattle.ptk_main_tools.specs.Numbers.{image_fault}
use Rattle.ptk_main_tools.specs.Told.{text, told}
use Rattle.ptk_main_answers.specs.Images.{first_refused, image_name, image_refusal}
use Rattle.ptk_main_answers.specs.Refusals.{IsFaultOf, missing_image, refused_image, refused_image_at}

-- an image's fault is no failed write
image_is_no_write : (name : Bor (List ℕ)) (fault : ImageFault) → image_fault name fault ≢ WriteFailed
image_is_no_write name image.Short e = absurd cc
image_is_no_write name image.Magic e = absurd cc
image_is_no_write name image.Version e = absurd cc
image_is_no_write name image.Length e = absurd cc
image_is_no_write name image.Entry e = absurd cc
image_is_no_write name image.Memory e = absurd cc
image_is_no_write name image.Unfit e = absurd cc

refusal_is_no_write : (name : Bor (List ℕ)) (refusal : Option ImageFault) → option_map (image_fault name) refusal ≢ Some WriteFailed
refusal_is_no_write name None e = absurd cc
refusal_is_no_write name (Some fault) e = image_is_no_write name fault (search)

first_is_no_write : (config : Configuration) (files : List NamedFile) (first : Option ℕ) → option_and_then (refused_image_at config files) first ≢ Some WriteFailed
first_is_no_write config files None e = absurd cc
first_is_no_write config files (Some p) e =
    refusal_is_no_write (text (image_name config p)) (image_refusal files (section_at config p)) e

pub none_missing : (config : Configuration) (files : List NamedFile) → first_missing files config.sections ≡ None → missing_image config files ≡ None
none_missing config files whole = ap (option_map (λ p. MissingFile (text (image_name config p)))) whole

-- where no file is missing, the first refused image is the fault that a check answers
pub refused_image_is_fault : (config : Configuration) (files : List NamedFile) (fault : Fault) → first_missing files config.sections ≡ None
    → Some (told fault) ≡ refused_image config files
    → IsFaultOf (missing_image config files) (option_or (missing_image config files) (refused_image config files)) fault
refused_image_is_fault config files fault whole is =
    let none : missing_image config files ≡ None = none_missing config files whole in
    record {
      memory = λ _. none;
      write = λ e. absurd (first_is_no_write config files (first_refused files config.sections) (sym is ∙ ap (λ f. Some (told f)) e));
      other = λ _ _. ap (λ o. option_or o (refused_image config files)) none ∙ sym is;
    }
