-- Two runs of a partition alone whose limits differ in the output alone.
use Rattle.std.specs.Prelude.{◌≡◌, ℕ, ◌≤◌, ◌<◌, List, length, Option}
use Rattle.std.specs.Io.{StartsWith}
use Rattle.ptk_words.specs.Names.{Byte}
use Rattle.ptk_words.specs.declared.sections.Arrival.{Arrival}
use Rattle.ptk_words.specs.declared.sections.Limits.{Limits}
use Rattle.ptk_words_model.specs.Windows.{OwnTicks}
use Rattle.ptk_words_model.specs.State.{State}
use Rattle.ptk_words_model.specs.Run.{alone}

-- the limits with an output of at most this many bytes (own)
abbrev pub with_output_limit : ℕ → Limits → Limits
with_output_limit bytes limits = record limits { output = bytes }

-- the bytes that the partition has written (own)
abbrev pub output_of : State → List Byte
output_of s = s.part.console.output

-- what is written stays: the output after fewer ticks is the beginning of the output after more (own)
abbrev pub OutputIsOnlyAddedTo : Type 0
OutputIsOnlyAddedTo =
    (ticks : OwnTicks) (limits : Limits) (image : Option (List Byte)) (input : List Arrival) (earlier later : ℕ) → earlier ≤ later
    → StartsWith (output_of (alone ticks limits image input later)) (output_of (alone ticks limits image input earlier))

-- the two states are the same in all parts, if the first has written less than the limit or the other no more than it (own)
pub record IsSameWithin (limit : ℕ) (s u : State) : Type 0 where
  pub room : length (output_of s) < limit → s ≡ u
  pub within : length (output_of u) ≤ limit → s ≡ u

-- after every number of ticks the two runs are in the same state, as long as the output is within the smaller limit (own)
abbrev pub LargerOutputIsSameRun : Type 0
LargerOutputIsSameRun =
    (ticks : OwnTicks) (limits : Limits) (image : Option (List Byte)) (input : List Arrival) (small n : ℕ) → small ≤ limits.output
    → IsSameWithin small (alone ticks (with_output_limit small limits) image input n) (alone ticks limits image input n)
