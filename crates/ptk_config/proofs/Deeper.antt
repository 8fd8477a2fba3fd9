-- A configuration with another number of entries that a trace keeps is one.
use Rattle.std.proofs.Common.{◌≡◌, ℕ, ◌<◌, ◌≤◌, Bool, List, [], ◌∷◌, ◌||◌, length, map, set, get_or, refl, sym, ap, ◌∙◌}
use Rattle.std.specs.List.{list_any}
use Rattle.std.specs.Str.{bytes_eq}
use Rattle.std.proofs.lemmas.List.{map-set, get_or-map, set-get_or, length-set}
use Rattle.std.proofs.lemmas.List.Elements.{All-set, All-get_or}
use Rattle.ptk_words.specs.Ranges.{IsWithinLimits, IsInput}
use Rattle.ptk_words_model.specs.WindowFaults.{some_pair}
use Rattle.ptk_config.specs.Sections.{Section, AreInRange, no_section, with_trace, with_trace_at}
use Rattle.ptk_config.specs.Configuration.{Configuration, IsConfiguration, any_doubled}

-- ---- the names stay

abbrev name_of : Section → List ℕ
name_of s = s.name

any_named : (n : List ℕ) (xs : List Section) → list_any (λ u. bytes_eq n u.name) xs ≡ list_any (bytes_eq n) (map name_of xs)
any_named n [] = refl
any_named n (x ∷ xs) = ap (λ (b : Bool). bytes_eq n x.name || b) (any_named n xs)

pairs_named : (xs : List Section) → some_pair (λ s u. bytes_eq s.name u.name) xs ≡ some_pair bytes_eq (map name_of xs)
pairs_named [] = refl
pairs_named (x ∷ xs) =
    ap (λ (b : Bool). b || some_pair (λ s u. bytes_eq s.name u.name) xs) (any_named x.name xs)
    ∙ ap (λ (b : Bool). list_any (bytes_eq x.name) (map name_of xs) || b) (pairs_named xs)

names_kept : (e p : ℕ) (xs : List Section) → p < length xs → map name_of (with_trace_at e p xs) ≡ map name_of xs
names_kept e p xs h =
    map-set name_of xs p (with_trace e (get_or xs p no_section))
    ∙ ap (λ (n : List ℕ). set (map name_of xs) p n) (sym (get_or-map name_of xs p no_section [] h))
    ∙ set-get_or (map name_of xs) p []

pub distinct-kept : (e p : ℕ) (xs : List Section) → p < length xs → any_doubled (with_trace_at e p xs) ≡ any_doubled xs
unfolding any_doubled
distinct-kept e p xs h =
    pairs_named (with_trace_at e p xs) ∙ (ap (λ (ns : List (List ℕ)). some_pair bytes_eq ns) (names_kept e p xs h) ∙ sym (pairs_named xs))

-- ---- the ranges

within : (e : ℕ) (s : Section) → e ≤ 1048576 → IsWithinLimits s.limits → IsWithinLimits (with_trace e s).limits
within e s h k = record {
  memory_from = k.memory_from;
  memory_to = k.memory_to;
  memory_by = k.memory_by;
  threads_from = k.threads_from;
  threads_to = k.threads_to;
  stack_from = k.stack_from;
  stack_to = k.stack_to;
  stack_by = k.stack_by;
  stacks = k.stacks;
  mutexes_to = k.mutexes_to;
  conditions_to = k.conditions_to;
  keys_to = k.keys_to;
  interval_from = k.interval_from;
  interval_to = k.interval_to;
  ring_from = k.ring_from;
  ring_to = k.ring_to;
  output_to = k.output_to;
  trace_to = h;
}

ranges_kept : (e p : ℕ) (xs : List Section) → p < length xs → e ≤ 1048576 → AreInRange xs → AreInRange (with_trace_at e p xs)
ranges_kept e p xs h few k = record {
  limits = All-set (λ s. IsWithinLimits s.limits) xs p (with_trace e (get_or xs p no_section)) (within e (get_or xs p no_section) few (All-get_or (λ s. IsWithinLimits s.limits) xs p no_section h k.limits)) k.limits;
  input = All-set (λ s. IsInput s.input) xs p (with_trace e (get_or xs p no_section)) (All-get_or (λ s. IsInput s.input) xs p no_section h k.input) k.input;
}

-- ---- the configuration

pub deeper-whole : (e p : ℕ) (config : Configuration) → p < length config.sections → e ≤ 1048576 → IsConfiguration config
    → IsConfiguration (record config { sections = with_trace_at e p config.sections })
deeper-whole e p config h few k =
    let s : Section = with_trace e (get_or config.sections p no_section) in
    let same : length (with_trace_at e p config.sections) ≡ length config.sections = length-set config.sections p s in
    record {
      some = rw same k.some;
      few = rw same k.few;
      ranges = ranges_kept e p config.sections h few k.ranges;
      distinct = distinct-kept e p config.sections h ∙ k.distinct;
      frame_from = k.frame_from;
      frame_to = k.frame_to;
      stages = k.stages;
      numbers = k.numbers;
      plan = rw same k.plan;
    }
