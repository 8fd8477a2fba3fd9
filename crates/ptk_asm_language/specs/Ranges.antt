-- The numbers of the language, where they are within a range.
use Rattle.std.specs.Prelude.{ℕ, Option, Some, None, if◌then◌else◌, nat_le, ℤ}
use Rattle.ptk_asm_language.specs.Statements.{is_within}

-- a number, where it is at most a limit
abbrev pub kept_below : ℕ → ℕ → Option ℕ
kept_below n limit = if nat_le n limit then Some n else None

-- a number, where it is at most so far below 0, and at most so far above it
abbrev pub kept_within : ℕ → ℕ → ℤ → Option ℤ
kept_within below above n = if is_within below above n then Some n else None
