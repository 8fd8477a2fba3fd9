-- Words of 32 bits, as numbers below 2 ^ 32, and words in a list of bytes.
use Rattle.std.specs.Prelude.{ℕ, ◌+◌, ◌-◌, ◌/◌, ◌%◌, ◌^◌, Bool, ℤ, List, length, nat_lt, if◌then◌else◌, slice_range}
use Rattle.std.specs.Int.{w32, cast_signed, from_le_bytes, to_le_bytes}
use Rattle.std.specs.List.{replace_range}

-- ---- words

-- what is left of a number in 32 bits (RISC-V 2.4)
abbrev pub word_of : ℕ → ℕ
word_of n = n % 2 ^ 32

-- the word of the difference (RISC-V 2.4)
abbrev pub difference : ℕ → ℕ → ℕ
difference a b = word_of (a + 2 ^ 32 - b)

-- the word with each bit turned (RISC-V 2.4)
abbrev pub complement : ℕ → ℕ
complement a = 2 ^ 32 - 1 - a

-- the word as a two's complement number (RISC-V 2.4)
abbrev pub signed_value : ℕ → ℤ
signed_value a = cast_signed w32 a

-- the number that the count bits from low on make (RISC-V 2.2)
abbrev pub bits_from : ℕ → ℕ → ℕ → ℕ
bits_from low count word = word / 2 ^ low % 2 ^ count

-- a number of count bits as a word, its highest bit copied upward (RISC-V 2.3)
abbrev pub sign_extension : ℕ → ℕ → ℕ
sign_extension count n = if nat_lt n (2 ^ (count - 1)) then n else n + (2 ^ 32 - 2 ^ count)

-- the word shifted right by k, its highest bit copied (RISC-V 2.4)
abbrev pub arithmetic_shift : ℕ → ℕ → ℕ
arithmetic_shift a k = if nat_lt a (2 ^ 31) then a / 2 ^ k else complement (complement a / 2 ^ k)

-- 1 or 0, as a comparison writes it (RISC-V 2.4)
abbrev pub flag : Bool → ℕ
flag b = if b then 1 else 0

-- ---- words in a list of bytes, least byte first (RISC-V 2.6)

-- count bytes from an address on (RISC-V 2.6)
abbrev pub bytes_at : List ℕ → ℕ → ℕ → List ℕ
bytes_at memory address count = slice_range memory address (address + count)

-- the word at an address (RISC-V 2.6)
abbrev pub word_at : List ℕ → ℕ → ℕ
word_at memory address = from_le_bytes w32 (bytes_at memory address 4)

-- the memory with these bytes at the address (RISC-V 2.6)
abbrev pub with_bytes : List ℕ → ℕ → List ℕ → List ℕ
with_bytes memory address bytes = replace_range memory address (address + length bytes) bytes

-- the memory with this word at the address (RISC-V 2.6)
abbrev pub with_word : List ℕ → ℕ → ℕ → List ℕ
with_word memory address word = with_bytes memory address (to_le_bytes w32 word)
