-- The tables before any image is loaded: one partition's part of them.
use Rattle.std.proofs.Common.{◌≡◌, ℕ, zero, suc, ◌<◌, List, [], ◌∷◌, length, map, refl}
use Rattle.std.specs.Prelude.{Option, None, replicate, slice_index_or}
use Rattle.std.proofs.lemmas.List.{get_or-map, get_or-replicate}
use Rattle.ptk_words.specs.declared.faults.Status.TheVariants.{Active}
use Rattle.ptk_words.specs.declared.sections.Arrival.{Arrival}
use Rattle.ptk_words.specs.declared.sections.Entry.{Entry}
use Rattle.ptk_words.specs.declared.sections.Limits.{Limits}
use Rattle.ptk_words.specs.declared.threads.Cleanup.{Cleanup}
use Rattle.ptk_words.specs.declared.threads.Thread.{Thread}
use Rattle.ptk_words.specs.Parts.{part_of}
use Rattle.ptk_words_model.specs.State.{Mutex, Condition}
use Rattle.ptk_words_model.specs.Keys.{no_values, no_rounds}
use Rattle.ptk_words_model.specs.ThreadCreation.{new_cancellation}
use Rattle.ptk_words_model.specs.Run.{empty_part}
use Rattle.ptk_console.specs.ConsoleTable.{fresh_console, no_limits}
use Rattle.ptk_gate_pools.specs.Kept.{part_at, per_section}
use Rattle.ptk_gate_pools.specs.Blank.{blank}

row : {A : Type 0} (count : Limits → ℕ) (a : A) (limits : List Limits) (p : ℕ) → p < length limits → part_of (per_section count a limits) p ≡ replicate (count (slice_index_or limits p no_limits)) a
row count a limits p lt = get_or-map (λ (l : Limits). replicate (count l) a) limits p no_limits [] lt

console_row : {X : Type 0} (input_of : X → List Arrival) (inputs : List X) (p : ℕ) → slice_index_or (map (λ x. fresh_console (input_of x)) inputs) p (fresh_console []) ≡ fresh_console (slice_index_or (map input_of inputs) p [])
console_row input_of [] p = refl
console_row input_of (x ∷ xs) zero = refl
console_row input_of (x ∷ xs) (suc p) = console_row input_of xs p

-- a partition's part of the blank tables has no thread, and all its input is still to come
pub part_at-blank : {X : Type 0} (input_of : X → List Arrival) (limits : List Limits) (inputs : List X) (p : ℕ) → p < length limits
    → part_at p (blank limits (map (λ x. fresh_console (input_of x)) inputs)) ≡ empty_part (slice_index_or limits p no_limits) (slice_index_or (map input_of inputs) p [])
part_at-blank input_of limits inputs p lt =
    rw (
      row {A = ℕ} (λ l. l.memory) 0 limits p lt,
      row {A = Option Thread} (λ l. l.threads) None limits p lt,
      get_or-replicate {A = List ℕ} (length limits) p [] [] lt,
      row {A = Option Mutex} (λ l. l.mutexes) None limits p lt,
      row {A = Option Condition} (λ l. l.conditions) None limits p lt,
      get_or-replicate {A = Option ℕ} (length limits) p None None lt,
      row (λ l. l.threads) new_cancellation limits p lt,
      row {A = List Cleanup} (λ l. l.threads) [] limits p lt,
      row {A = Option ℕ} (λ l. l.keys) None limits p lt,
      get_or-map (λ (l : Limits). replicate l.threads (no_values l.keys)) limits p no_limits [] lt,
      row (λ l. l.threads) no_rounds limits p lt,
      console_row input_of inputs p,
      get_or-replicate (length limits) p Active Active lt,
      get_or-replicate {A = Option Entry} (length limits) p None None lt,
    ) refl
