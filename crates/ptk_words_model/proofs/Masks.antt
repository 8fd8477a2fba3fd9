-- What the masks of the instruction table keep of a word.
use Rattle.std.proofs.Common.{◌≡◌, ℕ, ◌+◌, ◌*◌, ◌/◌, ◌%◌, ◌^◌, ◌<◌, arith, ap, ◌∙◌, bit_and}
use Rattle.std.proofs.lemmas.Nat.{and_mask, and_block}

-- the word in two parts, each under its part of the mask
in_parts : (k n high low : ℕ) → 0 < 2 ^ k → low < 2 ^ k → bit_and n (high * 2 ^ k + low) ≡ bit_and (n / 2 ^ k) high * 2 ^ k + bit_and (n % 2 ^ k) low
in_parts k n high low pos within =
    let below : n % 2 ^ k < 2 ^ k = omega arith in
    let parts : n ≡ n / 2 ^ k * 2 ^ k + n % 2 ^ k = omega arith in
    ap (λ m. bit_and m (high * 2 ^ k + low)) parts ∙ and_block k (n / 2 ^ k) high (n % 2 ^ k) low below within

-- the opcode
pub and_opcode : (n : ℕ) → bit_and n 0x7f ≡ n % 2 ^ 7
and_opcode n = and_mask n 7

-- all 32 bits
pub and_whole : (n : ℕ) → bit_and n 0xffffffff ≡ n % 2 ^ 32
and_whole n = and_mask n 32

-- the opcode and funct3
pub and_funct3 : (n : ℕ) → bit_and n 0x707f ≡ n / 2 ^ 12 % 2 ^ 3 * 2 ^ 12 + n % 2 ^ 7
and_funct3 n =
    let split = in_parts 12 n 7 127 (omega arith) (omega arith) in
    let high = and_mask (n / 2 ^ 12) 3 in
    let low = and_mask (n % 2 ^ 12) 7 in
    omega (arith, split, high, low)

-- the opcode, funct3 and funct7
pub and_funct7 : (n : ℕ) → bit_and n 0xfe00707f ≡ n / 2 ^ 25 % 2 ^ 7 * 2 ^ 25 + (n / 2 ^ 12 % 2 ^ 3 * 2 ^ 12 + n % 2 ^ 7)
and_funct7 n =
    let split = in_parts 25 n 127 0x707f (omega arith) (omega arith) in
    let high = and_mask (n / 2 ^ 25) 7 in
    let low = and_funct3 (n % 2 ^ 25) in
    omega (arith, split, high, low)
