-- Images that are refused, and what a fault leaves.
use Rattle.std.specs.Prelude.{◌≡◌, ℕ, List, [], ◌∷◌, ◌++◌, map, take, replicate, codes, Some, Result, Ok, Err}
use Rattle.ptk_words.specs.Names.{Word}
use Rattle.ptk_words.specs.Pools.{numbers_to}
use Rattle.ptk_words.specs.Faults.{image_fault_number}
use Rattle.ptk_words.specs.Image.{ImageParts, image_of}
use Rattle.ptk_words.specs.declared.TheConstants.{A0}
use Rattle.ptk_words.specs.declared.faults.ImageFault.{ImageFault}
use Rattle.ptk_words.specs.declared.faults.ImageFault.TheVariants.{Unfit}
use Rattle.ptk_words.specs.declared.faults.Status.TheVariants.{Refused}
use Rattle.ptk_words_model.specs.Text.{report_text}
use Rattle.ptk_words_laws.specs.Guests.{bytes_of_words, image_of_words, small, one_window, first_half, second_half, run, name, lines, register_of}
use Rattle.ptk_words_laws.specs.Rows.Runs.{hello_image}

-- an image with no byte of text halts its partition at the first step (own)
abbrev pub EmptyImage : Type 0
EmptyImage =
    report_text name (run (one_window 20 20) small (image_of_words [] []) 20)
    ≡ lines (codes "partition p fault illegal pc 0x00000000 steps 1 lost 0" ∷ codes "output 0" ∷ [] ∷ [])

-- lui t0, 1; addi t0, t0, 0; lbu a0, -1(t0); and a last word
abbrev pub loads : Word → List ℕ
loads last = image_of_words (0x000012b7 ∷ 0x00028293 ∷ 0xfff2c503 ∷ last ∷ []) []

-- the last byte of memory can be read, a word that ends after it cannot; a misaligned one is refused first, wherever the windows lie (own)
pub record LoadAtMemoryEnd : Type 0 where
  pub byte : register_of (run (one_window 20 20) small (loads 0xffe2a503) 3).part 1 A0 ≡ Some 0
  pub misaligned : report_text name (run (one_window 20 20) small (loads 0xffe2a503) 20) ≡ lines (codes "partition p fault misaligned pc 0x0000000c steps 4 lost 0" ∷ codes "output 0" ∷ [] ∷ [])
  pub outside : report_text name (run (one_window 20 20) small (loads 0x0002a503) 20) ≡ lines (codes "partition p fault load pc 0x0000000c steps 4 lost 0" ∷ codes "output 0" ∷ [] ∷ [])
  pub misaligned_beside : report_text name (run first_half small (loads 0xffe2a503) 20) ≡ lines (codes "partition p fault misaligned pc 0x0000000c steps 4 lost 0" ∷ codes "output 0" ∷ [] ∷ [])
  pub outside_beside : report_text name (run first_half small (loads 0x0002a503) 20) ≡ lines (codes "partition p fault load pc 0x0000000c steps 4 lost 0" ∷ codes "output 0" ∷ [] ∷ [])

-- an image without its last byte is refused by its length, and its partition takes no step (own)
abbrev pub RefusedImage : Type 0
RefusedImage =
    report_text (codes "q") (run second_half small (take 59 hello_image) 40)
    ≡ lines (codes "partition q refused image 4 steps 0 lost 0" ∷ codes "output 0" ∷ [] ∷ [])

-- the number of the check that bytes fail as an image, 0 where they are one
abbrev pub fault_of : Result ImageParts ImageFault → ℕ
fault_of (Ok image) = 0
fault_of (Err fault) = image_fault_number fault

-- an image cut short lacks its header or some of its bytes; zeros that end above all addresses do not fit, as no sum wraps (own)
pub record CutImage : Type 0 where
  pub cut : map (λ n. fault_of (image_of (take n hello_image))) (0 ∷ numbers_to 59) ≡ replicate 24 1 ++ replicate 36 4
  pub whole : fault_of (image_of hello_image) ≡ 0
  pub zeros : (run (one_window 20 20) small (codes "PTKI" ++ bytes_of_words (1 ∷ 0 ∷ 0 ∷ 0 ∷ 0xffffffff ∷ [])) 20).part.status ≡ Refused Unfit
