-- Ticks as timespecs and back.
use Rattle.std.specs.Prelude.{◌≡◌, [], ◌∷◌, map}
use Rattle.ptk_words.specs.Names.{Word}
use Rattle.ptk_words_model.specs.Time.{Timespec, time_bytes, deadline_of}
use Rattle.ptk_words_laws.specs.Guests.{bytes_of_words}

-- a timespec of these words: seconds low and high, and nanoseconds
abbrev pub timespec : Word → Word → Word → Timespec
timespec low high nanoseconds = record { low = low; high = high; nanoseconds = nanoseconds }

-- the clocks tell the tick, and a deadline is the least tick not before its time, 0 of a negative time, and the tick after the last of one past it (clock_gettime, clock_nanosleep; own)
pub record TickConversion : Type 0 where
  pub clock : time_bytes 1000001 ≡ bytes_of_words (1 ∷ 0 ∷ 1000 ∷ [])
  pub deadlines : map deadline_of (timespec 0 0 1 ∷ timespec 0 0 1000 ∷ timespec 0 0 1001 ∷ timespec 0xffffffff 0xffffffff 0 ∷ []) ≡ 1 ∷ 1 ∷ 2 ∷ 0 ∷ []
  pub last : map deadline_of (timespec 1099511 0 627776000 ∷ timespec 1099511 0 627776001 ∷ []) ≡ 1099511627776 ∷ 1099511627777 ∷ []
