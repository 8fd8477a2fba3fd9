-- Times of a clock in seconds and nanoseconds, and ticks of 1,000 ns.
use Rattle.std.specs.Prelude.{⊤, ℕ, ◌+◌, ◌*◌, ◌/◌, ◌%◌, ◌^◌, ◌≤◌, min, ℤ, pos, negsuc, nat_le, if◌then◌else◌}
use Rattle.std.specs.Int.{w64, cast_signed, div_ceil}
use Rattle.ptk_words.specs.Names.{Word, Tick}
use Rattle.ptk_words.specs.declared.TheConstants.{LAST_TICK}

-- the deadline of a time: the least tick that is not before it, 0 for negative times, and for a time past every run the tick after the last, which never comes (own)
abbrev pub tick_of : ℤ → ℕ → Tick
tick_of (negsuc n) nanoseconds = 0
tick_of (pos seconds) nanoseconds = min (LAST_TICK + 1) (seconds * 1000000 + div_ceil nanoseconds 1000)

-- the tick is not before the time
abbrev pub IsNotBefore : Tick → ℤ → ℕ → Type 0
IsNotBefore tick (negsuc n) nanoseconds = ⊤
IsNotBefore tick (pos seconds) nanoseconds = seconds * 1000000000 + nanoseconds ≤ tick * 1000

-- the whole seconds of a tick
abbrev pub seconds_of : Tick → ℕ
seconds_of tick = tick / 1000000

-- the nanoseconds of a tick beside its whole seconds
abbrev pub nanoseconds_of : Tick → ℕ
nanoseconds_of tick = tick % 1000000 * 1000

-- the seconds of two words, low and high, as one signed number (own)
abbrev pub seconds_of_words : Word → Word → ℤ
seconds_of_words low high = cast_signed w64 (high * 2 ^ 32 + low)

-- the deadline of a time whose seconds are two words, low and high
abbrev pub tick_of_words : Word → Word → ℕ → Tick
tick_of_words low high nanoseconds =
    if nat_le (2 ^ 31) high
    then 0
    else min (LAST_TICK + 1) ((high * 2 ^ 32 + low) * 1000000 + div_ceil nanoseconds 1000)
