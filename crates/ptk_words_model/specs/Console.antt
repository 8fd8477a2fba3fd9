-- The console: its ring, its output and its waiters.
use Rattle.std.specs.Prelude.{ℕ, ◌+◌, Bool, List, [], ◌∷◌, ◌++◌, length, take_while, drop, nat_lt, nat_le, if◌then◌else◌}
use Rattle.ptk_words.specs.Names.{Byte, ThreadNumber, Tick}
use Rattle.ptk_words.specs.Pools.{without}
use Rattle.ptk_words.specs.declared.sections.Arrival.{Arrival}
use Rattle.ptk_words_model.specs.State.{Console}

-- the output has its limit of bytes
abbrev pub is_full : ℕ → Console → Bool
is_full limit console = nat_le limit (length console.output)

-- a byte at the end of the output
abbrev pub with_output : Byte → Console → Console
with_output byte console = record console { output = console.output ++ byte ∷ [] }

-- a byte into the ring, or lost and counted where the ring has its limit (own)
abbrev pub with_input : ℕ → Byte → Console → Console
with_input limit byte console =
    if nat_lt (length console.ring) limit
    then record console { ring = console.ring ++ byte ∷ [] }
    else record console { dropped = console.dropped + 1 }

-- the thread as the last waiter
abbrev pub with_waiter : ThreadNumber → Console → Console
with_waiter t console = record console { waiters = console.waiters ++ t ∷ [] }

-- the thread has left the waiters
abbrev pub without_waiter : ThreadNumber → Console → Console
without_waiter t console = record console { waiters = without t console.waiters }

-- the input comes at the tick or before
abbrev pub is_due_at : Tick → Arrival → Bool
is_due_at tick arrival = nat_le arrival.tick tick

-- the input that comes at the tick or before, in order
abbrev pub arriving : Tick → Console → List Arrival
arriving tick console = take_while (is_due_at tick) console.coming

-- the console with the rest of the input still to come
abbrev pub without_arriving : Tick → Console → Console
without_arriving tick console = record console { coming = drop (length (arriving tick console)) console.coming }
