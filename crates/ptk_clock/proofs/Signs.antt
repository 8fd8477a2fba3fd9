-- Seconds in two words as one signed number.
use Rattle.std.proofs.Common.{◌≡◌, ℕ, ◌+◌, ◌*◌, ◌^◌, ◌-◌, ◌<◌, ◌≤◌, suc, Bool, true, false, cond, refl, ap, arith, min}
use Rattle.std.specs.Prelude.{nat_lt, nat_le, negsuc}
use Rattle.std.specs.Int.{w64, cast_signed, div_ceil}
use Rattle.std.proofs.lemmas.Bool.Decides.{nat_tests}
use Rattle.std.proofs.lemmas.Int.{to_z_pos}
use Rattle.ptk_words.specs.declared.TheConstants.{LAST_TICK}
use Rattle.ptk_clock.specs.Ticks.{tick_of, seconds_of_words, tick_of_words}

negative : (n : ℕ) → 2 ^ 63 ≤ n → n < 2 ^ 64 → cast_signed w64 n ≡ negsuc (2 ^ 64 - suc n)
negative n le lt = let high : nat_lt n (2 ^ 63) ≡ false = grind (arith, nat_tests) in rw high refl

by_sign : (low high nanoseconds : ℕ) (b : Bool) → nat_le (2 ^ 31) high ≡ b → low < 2 ^ 32 → high < 2 ^ 32
    → tick_of (seconds_of_words low high) nanoseconds ≡ cond b 0 (min (LAST_TICK + 1) ((high * 2 ^ 32 + low) * 1000000 + div_ceil nanoseconds 1000))
by_sign low high nanoseconds true e l h =
    let far : 2 ^ 31 ≤ high = grind (arith, nat_tests) in
    ap (λ z. tick_of z nanoseconds) (negative (high * 2 ^ 32 + low) (omega arith) (omega arith))
by_sign low high nanoseconds false e l h =
    let near : high < 2 ^ 31 = grind (arith, nat_tests) in
    ap (λ z. tick_of z nanoseconds) (to_z_pos w64 (high * 2 ^ 32 + low) (omega arith))

pub tick_of-words : (low high nanoseconds : ℕ) → low < 2 ^ 32 → high < 2 ^ 32 → tick_of (seconds_of_words low high) nanoseconds ≡ tick_of_words low high nanoseconds
tick_of-words low high nanoseconds l h = by_sign low high nanoseconds (nat_le (2 ^ 31) high) refl l h

pub ruleset signs = (tick_of-words)
