-- Bits set, cleared and found.
use Rattle.std.proofs.Common.{◌≡◌, ℕ, suc, ◌+◌, ◌-◌, ◌*◌, ◌/◌, ◌%◌, ◌^◌, ◌<◌, ◌≤◌, true, false, sym, ◌∙◌, ap, arith}
use Rattle.std.specs.Prelude.{Some, bit_or, ◌==◌}
use Rattle.std.specs.Int.{bit_at, bit_not, w32}
use Rattle.std.specs.Int.Bits.{bit_and}
use Rattle.std.specs.Int.Count.{count_leading_zeros}
use Rattle.std.proofs.lemmas.Nat.{leading_top, shr_high}
use Rattle.std.proofs.lemmas.Nat.Bits.{bit_at_set_same, bit_at_set_other, bit_at_clear_same, bit_at_clear_other, bit_at_above}
use Rattle.std.proofs.Math.Nat.{pow-suc}
use Rattle.ptk_ready.specs.Bits.{IsBitChanged, IsGreatestBit}

pub set_bit : (bits i : ℕ) → i < 32 → IsBitChanged bits (bit_or bits (1 * 2 ^ i % 2 ^ 32)) i true
set_bit bits i lt = record {
  own = ap (λ b. b == 1) (bit_at_set_same w32 bits i lt);
  others = λ j within ne. ap (λ b. b == 1) (bit_at_set_other w32 bits i lt j ne);
}

pub clear_bit : (bits i : ℕ) → i < 32 → IsBitChanged bits (bit_and bits (bit_not w32 (1 * 2 ^ i % 2 ^ 32))) i false
clear_bit bits i lt = record {
  own = ap (λ b. b == 1) (bit_at_clear_same w32 bits i lt);
  others = λ j within ne. ap (λ b. b == 1) (bit_at_clear_other w32 bits i lt j within ne);
}

-- a number between two powers has that bit
top_bit : (bits j : ℕ) → 2 ^ j ≤ bits → bits < 2 ^ suc j → bit_at bits j ≡ 1
top_bit bits j low high =
    let double : 2 ^ suc j ≡ 2 ^ j * 2 = pow-suc 2 j in
    let rest : bits - 2 ^ j < 2 ^ j = omega (arith, low, high, double) in
    let whole : 1 * 2 ^ j + (bits - 2 ^ j) ≡ bits = omega (arith, low) in
    let one : bits / 2 ^ j ≡ 1 = ap (λ n. n / 2 ^ j) (sym whole) ∙ shr_high 1 j (bits - 2 ^ j) rest in
    ap (λ n. n % 2) one

pub top_is : (bits i : ℕ) → 0 < bits → bits < 2 ^ 32 → i + count_leading_zeros 32 bits ≡ 31 → IsGreatestBit bits (Some i)
top_is bits i pos lt e =
    let top = leading_top 32 bits pos lt in
    let same : top.0 ≡ i = omega (arith, top.1) in
    let low : 2 ^ i ≤ bits = rw (← same) top.2 in
    let high : bits < 2 ^ suc i = rw (← same) top.3 in (
      omega (arith, top.1),
      ap (λ b. b == 1) (top_bit bits i low high),
      λ j within above. ap (λ b. b == 1) (bit_at_above bits (suc i) j high (omega (arith, above))),
    )
