-- The tables while the images are loaded.
use Rattle.std.specs.Prelude.{◌≡◌, ℕ, ◌<◌, ◌≤◌, length, List, map}
use Rattle.ptk_words_model.specs.Run.{empty_part, start_part}
use Rattle.ptk_system_machine.specs.Kept.{Kept, AreParts, part_at}
use Rattle.ptk_config.specs.Configuration.{Configuration}
use Rattle.ptk_image.specs.NamedFiles.{NamedFile}
use Rattle.ptk_system.specs.Missing.{image_in}
use Rattle.ptk_system.specs.World.{section_at}

-- the first n partitions are as they start, the others have no image yet
pub record AreLoaded (config : Configuration) (files : List NamedFile) (n : ℕ) (kept : Kept) : Type 0 where
  pub parts : AreParts (length config.sections) kept
  pub limits : kept.limits ≡ map (λ section. section.limits) config.sections
  pub loaded : (p : ℕ) → p < n → p < length config.sections →
      part_at p kept ≡ start_part (section_at config p).limits (image_in files (section_at config p).image) (section_at config p).input
  pub blank : (p : ℕ) → n ≤ p → p < length config.sections → part_at p kept ≡ empty_part (section_at config p).limits (section_at config p).input
