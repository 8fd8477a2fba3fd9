-- The sizes of the parts of a state, which its section gives and which stay.
use Rattle.std.specs.Prelude.{◌≡◌, ℕ, ◌≤◌, List, length, Option, All}
use Rattle.ptk_words.specs.Calls.{call_of}
use Rattle.ptk_words.specs.declared.sections.Arrival.{Arrival}
use Rattle.ptk_words.specs.declared.sections.Limits.{Limits}
use Rattle.ptk_words_model.specs.Windows.{OwnTicks}
use Rattle.ptk_words_model.specs.State.{Part}
use Rattle.ptk_words_model.specs.declared.Invocation.{Invocation}
use Rattle.ptk_words_model.specs.CallTable.{answer_to}
use Rattle.ptk_words_model.specs.Decision.{after_decision}
use Rattle.ptk_words_model.specs.Run.{start_part, alone}

-- every part of the state has the size that the section gives it
pub record IsSized (limits : Limits) (part : Part) : Type 0 where
  pub memory : length part.memory ≡ limits.memory
  pub threads : length part.threads ≡ limits.threads
  pub mutexes : length part.mutexes ≡ limits.mutexes
  pub conditions : length part.conditions ≡ limits.conditions
  pub cancellations : length part.cancellations ≡ limits.threads
  pub cleanups : length part.cleanups ≡ limits.threads
  pub destructors : length part.keys.destructors ≡ limits.keys
  pub values : length part.keys.values ≡ limits.threads
  pub each_values : All (λ values. length values ≡ limits.keys) part.keys.values
  pub rounds : length part.keys.rounds ≡ limits.threads
  pub ring : length part.console.ring ≤ limits.ring
  pub output : length part.console.output ≤ limits.output

-- at the start every part has its size, whatever the image and the input
abbrev pub StartIsSized : Limits → Option (List ℕ) → List Arrival → Type 0
StartIsSized limits image input = IsSized limits (start_part limits image input)

-- a state whose parts have their sizes still has them after any call
abbrev pub CallsKeepSizes : Part → Type 0
CallsKeepSizes part = (number : ℕ) → (i : Invocation) → IsSized i.limits part → IsSized i.limits (answer_to (call_of number) i part).part

-- a state whose parts have their sizes still has them after any decision
abbrev pub DecisionsKeepSizes : Limits → Part → Type 0
DecisionsKeepSizes limits part = (tick room : ℕ) → IsSized limits part → IsSized limits (after_decision limits tick room part)

-- after every number of ticks each part has its size, and the trace at most as many entries as the section gives it
abbrev pub SizesStay : OwnTicks → Limits → Option (List ℕ) → List Arrival → Type 0
SizesStay ticks limits image input =
    (n : ℕ)
    → IsSized limits (alone ticks limits image input n).part
    × (length (alone ticks limits image input n).account.trace ≤ limits.trace)
