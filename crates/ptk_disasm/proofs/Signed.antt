-- Numbers of n bits, as two's complement.
use Rattle.std.proofs.Common.{◌≡◌, ℕ, ◌-◌, ◌%◌, ◌^◌, ◌<◌, Bool, true, false, ◌&&◌, refl, arith, ℤ, nat_lt}
use Rattle.std.specs.Prelude.{nat_abs}
use Rattle.std.proofs.lemmas.Bool.Decides.{nat_tests}
use Rattle.ptk_asm_language.specs.Statements.{is_within, is_even, field, distance_field}
use Rattle.ptk_disasm.specs.WordStatements.{signed}

-- an immediate of 12 bits
pub record IsShort (n : ℤ) (bits : ℕ) : Type 0 where
  pub within : is_within 2048 2047 n ≡ true
  pub same : field 12 n ≡ bits
  pub small : nat_abs n < 2 ^ 64

pub short : (bits : ℕ) → bits < 2 ^ 12 → IsShort (signed 12 bits) bits
short bits h = by_sign (nat_lt bits (2 ^ 11)) refl
  where
    by_sign : (b : Bool) → nat_lt bits (2 ^ 11) ≡ b → IsShort (signed 12 bits) bits
    by_sign true e =
        let below : bits < 2 ^ 11 = grind (arith, nat_tests) in
        rw e (record { within = grind (arith, nat_tests); same = omega arith; small = omega arith })
    by_sign false e =
        let m : ℕ = 2 ^ 12 - 1 - bits in
        let below : m < 2048 = grind (arith, nat_tests) in
        rw e (record { within = grind (arith, nat_tests); same = omega arith; small = omega arith })

-- an even distance
pub record IsDistance (width below above : ℕ) (n : ℤ) (bits : ℕ) : Type 0 where
  pub within : (is_within below above n && is_even n) ≡ true
  pub same : distance_field width n ≡ bits
  pub small : nat_abs n < 2 ^ 64

pub branch_distance : (bits : ℕ) → bits < 2 ^ 13 → bits % 2 ≡ 0 → IsDistance 13 4096 4094 (signed 13 bits) bits
branch_distance bits h even = by_sign (nat_lt bits (2 ^ 12)) refl
  where
    by_sign : (b : Bool) → nat_lt bits (2 ^ 12) ≡ b → IsDistance 13 4096 4094 (signed 13 bits) bits
    by_sign true e =
        let below : bits < 2 ^ 12 = grind (arith, nat_tests) in
        rw e (record { within = grind (arith, nat_tests); same = omega arith; small = omega arith })
    by_sign false e =
        let above : 2 ^ 12 - 1 < bits = grind (arith, nat_tests) in
        rw e (record { within = grind (arith, nat_tests); same = omega arith; small = omega arith })

pub jump_distance : (bits : ℕ) → bits < 2 ^ 21 → bits % 2 ≡ 0 → IsDistance 21 1048576 1048574 (signed 21 bits) bits
jump_distance bits h even = by_sign (nat_lt bits (2 ^ 20)) refl
  where
    by_sign : (b : Bool) → nat_lt bits (2 ^ 20) ≡ b → IsDistance 21 1048576 1048574 (signed 21 bits) bits
    by_sign true e =
        let below : bits < 2 ^ 20 = grind (arith, nat_tests) in
        rw e (record { within = grind (arith, nat_tests); same = omega arith; small = omega arith })
    by_sign false e =
        let above : 2 ^ 20 - 1 < bits = grind (arith, nat_tests) in
        rw e (record { within = grind (arith, nat_tests); same = omega arith; small = omega arith })
