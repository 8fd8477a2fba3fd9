-- The bits of a number of 32 bits.
use Rattle.std.specs.Prelude.{◌≡◌, ◌≢◌, ℕ, ◌<◌, ◌==◌, Bool, true, false, Option, Some, None}
use Rattle.std.specs.Int.{bit_at}

-- bit i is set (own)
abbrev pub has_bit : ℕ → ℕ → Bool
has_bit bits i = bit_at bits i == 1

-- bit i is this one, and the others are as before
pub record IsBitChanged (old new i : ℕ) (bit : Bool) : Type 0 where
  pub own : has_bit new i ≡ bit
  pub others : (j : ℕ) → j < 32 → j ≢ i → has_bit new j ≡ has_bit old j

-- the greatest bit that is set, None where none is
abbrev pub IsGreatestBit : ℕ → Option ℕ → Type 0
IsGreatestBit bits None = (i : ℕ) → i < 32 → has_bit bits i ≡ false
IsGreatestBit bits (Some i) = (i < 32) × (has_bit bits i ≡ true) × ((j : ℕ) → j < 32 → i < j → has_bit bits j ≡ false)
