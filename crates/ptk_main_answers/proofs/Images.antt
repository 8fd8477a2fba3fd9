-- Which images a boot refuses.
use Rattle.std.proofs.Common.{◌≡◌, ◌∙◌, ◌<◌, ℕ, Bool, true, false, List, Option, Some, None, Result, Ok, Err, length, get_or, position, refl, sym, ap, arith, rules, ◌+◌, inl, inr, is_some}
use Rattle.std.specs.Prelude.{if◌then◌else◌, nat_lt}
use Rattle.std.proofs.lemmas.Bool.{cases_order}
use Rattle.std.proofs.lemmas.List.Sums.{position_or_len_is}
use Rattle.ptk_words.specs.Image.{ImageParts, image_of}
use Rattle.ptk_words.specs.declared.faults.ImageFault.{ImageFault}
use Rattle.ptk_words.specs.declared.faults.ImageFault.TheVariants.{Unfit}
use Rattle.ptk_words.specs.declared.sections.Arrival.{Arrival}
use Rattle.ptk_words.specs.declared.sections.Limits.{Limits}
use Rattle.ptk_words.specs.declared.faults.Status.TheVariants.{Refused}
use Rattle.ptk_words.proofs.Lists.{position-at}
use Rattle.ptk_words_model.specs.Run.{empty_part, fits, main_thread, memory_of, start_part, with_image}
use Rattle.ptk_words_model.specs.ThreadCreation.{with_new_thread}
use Rattle.ptk_words_model.specs.State.{Part, State}
use Rattle.ptk_main_runs.specs.Missing.{image_in}
use Rattle.ptk_words_model.specs.Text.{has_runnable}
use Rattle.ptk_main_runs.specs.Told.{activity_of, status_in}
use Rattle.ptk_main_runs.specs.World.{World, alone_in, no_section, section_at, state_of, world_at}
use Rattle.ptk_main_runs.proofs.Keeping.{state_alone}
use Rattle.ptk_main_runs.specs.Refused.{refusal_of, refusal_of_parts}
use Rattle.ptk_main_answers.specs.Images.{first_refused, image_refusal, is_refused, refusal_in}

active_is_no_refusal : (busy : Bool) → refusal_in (activity_of busy) ≡ None
active_is_no_refusal true = refl
active_is_no_refusal false = refl

refusal-parts : (limits : Limits) (image : Result ImageParts ImageFault) (input : List Arrival)
    → refusal_in (status_in (with_image limits image (empty_part limits input))) ≡ refusal_of_parts limits image
refusal-parts limits (Err fault) input = refl
refusal-parts limits (Ok image) input =
    let empty : Part = empty_part limits input in
    let started : Part = with_new_thread limits 1 (main_thread limits image) (record empty { memory = memory_of limits image }) in
    let refused : Part = record empty { status = Refused Unfit } in
    elim (fits limits image) as (λ b. refusal_in (status_in (if b then started else refused)) ≡ (if b then None else Some Unfit)) [
      | true ↦ active_is_no_refusal (has_runnable started)
      | false ↦ refl
    ]

refusal-bytes : (limits : Limits) (image : Option (List ℕ)) (input : List Arrival) → refusal_in (status_in (start_part limits image input)) ≡ refusal_of limits image
refusal-bytes limits None input = refl
refusal-bytes limits (Some bytes) input = refusal-parts limits (image_of bytes) input

-- at tick 0 a partition's status says whether its image was refused
pub refusal_in-start : (w : World) (p : ℕ) → w ≡ world_at w.config w.files w.tick → w.tick ≡ 0 → p < length w.config.sections → refusal_in (status_in (state_of w p).part) ≡ image_refusal w.files (section_at w.config p)
refusal_in-start w p alone e lt =
    ap (λ (s : State). refusal_in (status_in s.part)) (state_alone w p alone lt)
    ∙ (ap (λ (n : ℕ). refusal_in (status_in (alone_in w.config w.files p n).part)) e
    ∙ refusal-bytes (section_at w.config p).limits (image_in w.files (section_at w.config p).image) (section_at w.config p).input)

-- ---- the first place

not_below : (a : ℕ) → nat_lt a a ≡ false
not_below a = search rules

pub position-none : {X : Type 0} (p : X → Bool) (xs : List X) (n : ℕ) (d : X) → n ≡ length xs → ((k : ℕ) → k < n → p (get_or xs k d) ≡ false)
    → position p xs ≡ None
position-none p xs n d e before =
    ap (λ (m : ℕ). if nat_lt m (length xs) then Some m else None) (position_or_len_is p xs n d (omega arith) before (λ h. absurd (omega arith)) ∙ e)
    ∙ ap (λ (b : Bool). if b then Some (length xs) else None) (not_below (length xs))

-- ---- a partition's status at tick 0, by what it says of the image

refused-status : (w : World) (p : ℕ) (o : Option ImageFault) → w ≡ world_at w.config w.files w.tick → w.tick ≡ 0 → p < length w.config.sections → o ≡ refusal_in (status_in (state_of w p).part) → image_refusal w.files (section_at w.config p) ≡ o
refused-status w p o alone start lt e = sym (refusal_in-start w p alone start lt) ∙ sym e

pub refused_image_is : (w : World) (p : ℕ) (fault : ImageFault) → w ≡ world_at w.config w.files w.tick → w.tick ≡ 0 → p < length w.config.sections → Some fault ≡ refusal_in (status_in (state_of w p).part)
    → image_refusal w.files (section_at w.config p) ≡ Some fault
refused_image_is w p fault alone start lt e = refused-status w p (Some fault) alone start lt e

-- the first refused so far is the first of all
pub first_refused_is : (w : World) (i p : ℕ) (fault : ImageFault) → w ≡ world_at w.config w.files w.tick → w.tick ≡ 0 → i < length w.config.sections → p ≡ i
    → ((q : ℕ) → q < i → is_refused w.files (section_at w.config q) ≡ false) → Some fault ≡ refusal_in (status_in (state_of w p).part)
    → Some p ≡ first_refused w.files w.config.sections
first_refused_is w i p fault alone start within same before e =
    let here : is_refused w.files (section_at w.config p) ≡ true = ap (λ (o : Option ImageFault). is_some o) (refused_image_is w p fault alone start (omega (arith, within, same)) e) in
    let at : is_refused w.files (section_at w.config i) ≡ true = ap (λ (n : ℕ). is_refused w.files (section_at w.config n)) (sym same) ∙ here in
    ap Some same ∙ sym (position-at (is_refused w.files) w.config.sections i no_section within before at)

-- one more partition is not refused
pub none_refused_to : (w : World) (i p : ℕ) → w ≡ world_at w.config w.files w.tick → w.tick ≡ 0 → i < length w.config.sections → p ≡ i → ((q : ℕ) → q < i → is_refused w.files (section_at w.config q) ≡ false)
    → None ≡ refusal_in (status_in (state_of w p).part) → (q : ℕ) → q < i + 1 → is_refused w.files (section_at w.config q) ≡ false
none_refused_to w i p alone start within same before e q lt =
    let here : is_refused w.files (section_at w.config p) ≡ false = ap (λ (o : Option ImageFault). is_some o) (refused-status w p None alone start (omega (arith, within, same)) e) in
    elim (cases_order q i) [
      | inl last ↦ ap (λ (n : ℕ). is_refused w.files (section_at w.config n)) (last ∙ sym same) ∙ here
      | inr order ↦ elim order [ inl earlier ↦ before q earlier | inr later ↦ absurd (omega (arith, lt, later)) ]
    ]

pub none_refused : (w : World) (n : ℕ) → n ≡ length w.config.sections → ((q : ℕ) → q < n → is_refused w.files (section_at w.config q) ≡ false)
    → None ≡ first_refused w.files w.config.sections
none_refused w n e before = sym (position-none (is_refused w.files) w.config.sections n no_section e before)
