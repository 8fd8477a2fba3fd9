-- The tables while images are loaded, and the machine that starts from them.
use Rattle.std.proofs.Common.{◌≡◌, ◌≢◌, ℕ, ◌+◌, ◌<◌, ◌≤◌, ◌==◌, Bool, true, false, All, List, [], length, map, get_or, refl, sym, ap, subst, ◌∙◌, arith, eqb-true, eq-eqb}
use Rattle.std.specs.Prelude.{Result, Ok}
use Rattle.ptk_words.specs.Image.{ImageParts}
use Rattle.ptk_words.specs.declared.faults.ImageFault.{ImageFault}
use Rattle.std.proofs.lemmas.Bool.{false≢true}
use Rattle.std.proofs.lemmas.List.{length-map, get_or-map}
use Rattle.ptk_words.specs.Ranges.{IsWithinLimits}
use Rattle.ptk_words.specs.declared.sections.Arrival.{Arrival}
use Rattle.ptk_words.specs.declared.sections.Limits.{Limits}
use Rattle.ptk_words_model.specs.Windows.{own_ticks}
use Rattle.ptk_words_model.specs.State.{Account, Part, State}
use Rattle.ptk_words_model.specs.Run.{empty_part, next_from, start, start_part, with_image, with_image_bytes}
use Rattle.ptk_console.specs.ConsoleTable.{fresh_console, no_limits}
use Rattle.ptk_system_machine.specs.Kept.{Kept, AreParts, limits_at, part_at, put_part}
use Rattle.ptk_system_machine.specs.Blank.{blank}
use Rattle.ptk_system_machine.proofs.Parted.{part_at-put, part_at-other, parts_put}
use Rattle.ptk_system_machine.proofs.BlankParts.{part_at-blank}
use Rattle.ptk_config.specs.Sections.{Section}
use Rattle.ptk_config.specs.Configuration.{Configuration, IsConfiguration}
use Rattle.ptk_image.specs.NamedFiles.{NamedFile}
use Rattle.ptk_system_machine.specs.Accounts.{KeptAccount, first_account}
use Rattle.ptk_system_machine.specs.Whole.{Whole, account_at, first_account_of, state_at}
use Rattle.ptk_system.specs.Missing.{image_in}
use Rattle.ptk_system.specs.World.{IsRun, alone_in, no_section, section_at}
use Rattle.ptk_system.specs.Loaded.{AreLoaded}
use Rattle.ptk_system_machine.proofs.Built.{parts_blank}
use Rattle.ptk_system.proofs.Keeping.{states_alone}

-- ---- before any image

-- the numbers of the sections are in their ranges
pub limits_ranges : (config : Configuration) (limits : List Limits) → IsConfiguration config → limits ≡ map (λ section. section.limits) config.sections → All IsWithinLimits limits
limits_ranges config limits is same =
    subst (λ (ls : List Limits). All IsWithinLimits ls) (sym same)
    (λ k d lt.
    let within : k < length config.sections = omega (arith, lt, length-map config.sections (λ (s : Section). s.limits)) in
    subst IsWithinLimits (sym (get_or-map (λ (s : Section). s.limits) config.sections k no_section d within)) (is.ranges.limits k no_section within))

pub blank_loaded : {X : Type 0} (input_of : X → List Arrival) (config : Configuration) (files : List NamedFile) (limits : List Limits) (inputs : List X) (kept : Kept) → IsConfiguration config
    → limits ≡ map (λ section. section.limits) config.sections → map input_of inputs ≡ map (λ section. section.input) config.sections
    → kept ≡ blank limits (map (λ x. fresh_console (input_of x)) inputs) → AreLoaded config files 0 kept
blank_loaded input_of config files limits inputs kept is same_limits same_inputs made =
    let count : length limits ≡ length config.sections = ap length same_limits ∙ length-map config.sections (λ (s : Section). s.limits) in
    let few : length config.sections ≤ 8 = is.few in
    let consoles : length (map (λ x. fresh_console (input_of x)) inputs) ≡ length limits =
    length-map inputs (λ x. fresh_console (input_of x))
    ∙ (sym (length-map inputs input_of) ∙ (ap length same_inputs ∙ (length-map config.sections (λ (s : Section). s.input) ∙ sym count))) in
    let parts : AreParts (length limits) (blank limits (map (λ x. fresh_console (input_of x)) inputs)) = parts_blank limits (map (λ x. fresh_console (input_of x)) inputs) (omega arith) consoles in
    record {
      parts = subst (λ (n : ℕ). AreParts n kept) count (subst (λ (k : Kept). AreParts (length limits) k) (sym made) parts);
      limits = ap (λ (k : Kept). k.limits) made ∙ same_limits;
      loaded = λ p none lt. absurd (omega arith);
      blank = λ p later lt. (
          let within : p < length limits = omega arith in
          ap (part_at p) made
          ∙ (part_at-blank input_of limits inputs p within
          ∙ (ap (λ (l : Limits). empty_part l (get_or (map input_of inputs) p [])) (ap (λ (ls : List Limits). get_or ls p no_limits) same_limits ∙ get_or-map (λ (s : Section). s.limits) config.sections p no_section no_limits lt)
          ∙ ap (empty_part (section_at config p).limits) (ap (λ (rows : List (List Arrival)). get_or rows p []) same_inputs ∙ get_or-map (λ (s : Section). s.input) config.sections p no_section [] lt))));
    }

-- ---- one image

limits_section : (config : Configuration) (kept : Kept) (p : ℕ) → kept.limits ≡ map (λ section. section.limits) config.sections → p < length config.sections → limits_at p kept ≡ (section_at config p).limits
limits_section config kept p same lt = ap (λ (ls : List Limits). get_or ls p no_limits) same ∙ get_or-map (λ (s : Section). s.limits) config.sections p no_section no_limits lt

-- a partition that has none yet
pub is_blank : (config : Configuration) (files : List NamedFile) (n : ℕ) (kept : Kept) → AreLoaded config files n kept → n < length config.sections
    → part_at n kept ≡ empty_part (limits_at n kept) (part_at n kept).console.coming
is_blank config files n kept are lt =
    let at : part_at n kept ≡ empty_part (section_at config n).limits (section_at config n).input = are.blank n (omega arith) lt in
    let coming : (part_at n kept).console.coming ≡ (section_at config n).input = ap (λ (s : Part). s.console.coming) at in
    at ∙ (ap (λ (l : Limits). empty_part l (section_at config n).input) (sym (limits_section config kept n are.limits lt)) ∙ ap (empty_part (limits_at n kept)) (sym coming))

-- one more image is loaded
pub more_loaded : (config : Configuration) (files : List NamedFile) (n : ℕ) (section : Section) (kept new : Kept) → AreLoaded config files n kept → n < length config.sections → section ≡ section_at config n
    → new ≡ put_part n (with_image_bytes (limits_at n kept) (image_in files section.image) (part_at n kept)) kept → AreLoaded config files (n + 1) new
more_loaded config files n section kept new are lt at moved = record {
  parts = subst (λ (k : Kept). AreParts (length config.sections) k) (sym moved) (parts_put (length config.sections) n _ kept are.parts);
  limits = ap (λ (k : Kept). k.limits) moved ∙ are.limits;
  loaded = λ p below within. loaded_by p below within (p == n) refl;
  blank = λ p later within.
      let differ : p ≢ n = omega arith in
      ap (part_at p) moved ∙ (part_at-other n p _ kept differ ∙ are.blank p (omega arith) within);
}
  where
    here : part_at n new ≡ start_part (section_at config n).limits (image_in files (section_at config n).image) (section_at config n).input
    here =
        let part : part_at n kept ≡ empty_part (section_at config n).limits (section_at config n).input = are.blank n (omega arith) lt in
        ap (part_at n) moved
        ∙ (part_at-put (length config.sections) n _ kept are.parts lt
        ∙ (ap (λ (l : Limits). with_image_bytes l (image_in files section.image) (part_at n kept)) (limits_section config kept n are.limits lt)
        ∙ (ap (λ (s : Section). with_image_bytes (section_at config n).limits (image_in files s.image) (part_at n kept)) at
        ∙ ap (with_image_bytes (section_at config n).limits (image_in files (section_at config n).image)) part)))

    loaded_by : (p : ℕ) → p < n + 1 → p < length config.sections → (b : Bool) → (p == n) ≡ b → part_at p new ≡ start_part (section_at config p).limits (image_in files (section_at config p).image) (section_at config p).input
    loaded_by p below within true e =
        subst (λ (q : ℕ). part_at q new ≡ start_part (section_at config q).limits (image_in files (section_at config q).image) (section_at config q).input) (sym (eqb-true p n e)) here
    loaded_by p below within false e =
        let differ : p ≢ n = λ one. false≢true (sym e ∙ eq-eqb p n one) in
        let before : p < n = omega arith in
        ap (part_at p) moved ∙ (part_at-other n p _ kept differ ∙ are.loaded p before within)

-- the image that was read is that of the bytes
pub image_loaded : (p : ℕ) (old new : Kept) (read : Result ImageParts ImageFault) (image : ImageParts) (entry bss : ℕ) (text initial : List ℕ) → read ≡ Ok image → entry ≡ image.entry → text ≡ image.text → initial ≡ image.«data» → bss ≡ image.bss
    → new ≡ put_part p (with_image (limits_at p old) (Ok (record { entry = entry; text = text; «data» = initial; bss = bss })) (part_at p old)) old
    → new ≡ put_part p (with_image (limits_at p old) read (part_at p old)) old
image_loaded p old new read image entry bss text initial is e t d b moved =
    let parts : ◌≡◌ {A = ImageParts} (record { entry = entry; text = text; «data» = initial; bss = bss }) image = λ i. record { entry = e i; text = t i; «data» = d i; bss = b i } in
    moved ∙ (ap (λ (parts : ImageParts). put_part p (with_image (limits_at p old) (Ok parts) (part_at p old)) old) parts
    ∙ ap (λ (r : Result ImageParts ImageFault). put_part p (with_image (limits_at p old) r (part_at p old)) old) (sym is))

pub loaded_sections : (config : Configuration) (files : List NamedFile) (n : ℕ) (kept : Kept) → AreLoaded config files n kept → length kept.limits ≡ length config.sections
loaded_sections config files n kept are = ap length are.limits ∙ length-map config.sections (λ section. section.limits)

-- ---- the start

started : {s t : Part} {a b : Account} → s ≡ t → a ≡ b → ◌≡◌ {A = State} (record { part = s; account = a }) (record { part = t; account = b })
started e f = λ i. record { part = e i; account = f i }

pub machine_starts : (config : Configuration) (files : List NamedFile) (limits : List Limits) (tables : Kept) (machine : Whole) → IsConfiguration config → limits ≡ map (λ section. section.limits) config.sections
    → AreLoaded config files (length config.sections) tables → machine.kept ≡ tables → length machine.accounts ≡ length limits
    → ((p : ℕ) → p < length limits → account_at p machine ≡ first_account_of config.plan tables p) → IsRun config files machine 0
machine_starts config files limits tables machine is same are kept count accounts =
    let sections : length limits ≡ length config.sections = ap length same ∙ length-map config.sections (λ (s : Section). s.limits) in
    let each : (p : ℕ) → p < length config.sections → state_at p machine ≡ alone_in config files p 0 = λ p lt. (
    let within : p < length limits = subst (λ (n : ℕ). p < n) (sym sections) lt in
    let loaded : part_at p tables ≡ start_part (section_at config p).limits (image_in files (section_at config p).image) (section_at config p).input = are.loaded p lt lt in
    let part : part_at p machine.kept ≡ start_part (section_at config p).limits (image_in files (section_at config p).image) (section_at config p).input = ap (part_at p) kept ∙ loaded in
    let account : (account_at p machine).account ≡ (start (own_ticks config.plan p) (section_at config p).limits (image_in files (section_at config p).image) (section_at config p).input).account =
    ap (λ (a : KeptAccount). a.account) (accounts p within) ∙ ap (λ (s : Part). first_account (next_from (own_ticks config.plan p) s.status 0)) loaded in
    started part account) in
    record {
      configured = is;
      parts = count ∙ sections;
      sections = ap (λ (k : Kept). length k.limits) kept ∙ loaded_sections config files (length config.sections) tables are;
      early = omega arith;
      limits = λ p lt. ap (limits_at p) kept ∙ limits_section config tables p are.limits lt;
      each = each;
      states = states_alone config files machine 0 (count ∙ sections) each;
    }

pub ruleset blanks = (limits_ranges, length-map)

pub ruleset starts = (length-map)
