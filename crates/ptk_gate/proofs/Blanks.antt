-- The tables before any image is loaded are whole.
use Rattle.std.proofs.Common.{arith, ◌≡◌, ℕ, ◌<◌, ◌≤◌, List, [], length, map, sym, ◌∙◌, subst}
use Rattle.std.specs.Prelude.{slice_index_or, All}
use Rattle.std.proofs.lemmas.List.{length-map, get_or-map}
use Rattle.ptk_words.specs.Ranges.{IsWithinLimits}
use Rattle.ptk_words.specs.declared.sections.Arrival.{Arrival}
use Rattle.ptk_words.specs.declared.sections.Limits.{Limits}
use Rattle.ptk_words_model.specs.State.{Part, Console}
use Rattle.ptk_words_invariant.specs.Well.{IsWell}
use Rattle.ptk_words_invariant.proofs.Starts.{well_empty}
use Rattle.ptk_console.specs.ConsoleTable.{fresh_console, no_limits}
use Rattle.ptk_gate_pools.specs.Blank.{blank}
use Rattle.ptk_gate_pools.specs.Kept.{IsOfWords}
use Rattle.ptk_gate_pools.proofs.Blanks.{part_at-blank}
use Rattle.ptk_gate.specs.Whole.{AreWhole}
use Rattle.ptk_gate_pools.proofs.Built.{parts_blank}

-- the blank tables are whole
pub whole_blank : {X : Type 0} (input_of : X → List Arrival) (limits : List Limits) (inputs : List X) → 1 ≤ length limits → length limits ≤ 8 → length inputs ≡ length limits → All IsWithinLimits limits
    → AreWhole (blank limits (map (λ x. fresh_console (input_of x)) inputs))
whole_blank input_of limits inputs some few same ranges =
    let consoles : List Console = map (λ x. fresh_console (input_of x)) inputs in
    record {
      some = some;
      wells = record {
        parts = parts_blank limits consoles few (length-map inputs (λ x. fresh_console (input_of x)) ∙ same);
        wells = λ p lt. (
            let at : IsWithinLimits (slice_index_or limits p no_limits) = ranges p no_limits lt in
            let Q : Part → Type 0 = λ s. IsWell (slice_index_or limits p no_limits) s in
            let first : 1 ≤ (slice_index_or limits p no_limits).interval = at.interval_from in
            subst Q (sym (part_at-blank input_of limits inputs p lt)) (well_empty (slice_index_or limits p no_limits) (slice_index_or (map input_of inputs) p []) (omega (arith, first))));
      };
      ranges = ranges;
    }

-- a number of each section within its range
counts_few : (count : Limits → ℕ) (most : ℕ) (limits : List Limits) → ((l : Limits) → IsWithinLimits l → count l ≤ most) → All IsWithinLimits limits → All (λ n. n ≤ most) (map count limits)
counts_few count most limits few ranges k d lt =
    let within : k < length limits = omega (arith, lt, length-map limits count) in
    let held : count (slice_index_or limits k no_limits) ≤ most = few (slice_index_or limits k no_limits) (ranges k no_limits within) in
    rw (get_or-map count limits k no_limits d within) held

-- each section has at most 32 threads
pub threads_few : (limits : List Limits) → All IsWithinLimits limits → All (λ count. count ≤ 32) (map (λ l. l.threads) limits)
threads_few limits ranges = counts_few (λ l. l.threads) 32 limits (λ l at. at.threads_to) ranges

-- and at most 64 mutexes
pub mutexes_few : (limits : List Limits) → All IsWithinLimits limits → All (λ count. count ≤ 64) (map (λ l. l.mutexes) limits)
mutexes_few limits ranges = counts_few (λ l. l.mutexes) 64 limits (λ l at. at.mutexes_to) ranges

-- and at most 32 condition variables
pub conditions_few : (limits : List Limits) → All IsWithinLimits limits → All (λ count. count ≤ 32) (map (λ l. l.conditions) limits)
conditions_few limits ranges = counts_few (λ l. l.conditions) 32 limits (λ l at. at.conditions_to) ranges

-- and at most 32 keys
pub keys_few : (limits : List Limits) → All IsWithinLimits limits → All (λ count. count ≤ 32) (map (λ l. l.keys) limits)
keys_few limits ranges = counts_few (λ l. l.keys) 32 limits (λ l at. at.keys_to) ranges

-- and a memory of whole words, far below 2^32 bytes
pub memory_of_words : (limits : List Limits) → All IsWithinLimits limits → All IsOfWords (map (λ l. l.memory) limits)
memory_of_words limits ranges k d lt =
    let within : k < length limits = omega (arith, lt, length-map limits (λ l. l.memory)) in
    let at : IsWithinLimits (slice_index_or limits k no_limits) = ranges k no_limits within in
    let P : ℕ → Type 0 = λ n. IsOfWords n in
    subst P (sym (get_or-map (λ l. l.memory) limits k no_limits d within)) (record { whole = omega (arith, at.memory_by); few = omega (arith, at.memory_to) })

pub ruleset blanks = (whole_blank, threads_few, mutexes_few, conditions_few, keys_few)
