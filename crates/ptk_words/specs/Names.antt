-- What a number stands for, by name.
use Rattle.std.specs.Prelude.{ℕ, List, [], ◌∷◌}

-- a thread of a partition, from 1 (XSH 2.9.2)
abbrev pub ThreadNumber : Type 0
ThreadNumber = ℕ

-- a mutex of a partition's pool, from 1 (own)
abbrev pub MutexNumber : Type 0
MutexNumber = ℕ

-- a condition variable of a partition's pool, from 1 (own)
abbrev pub ConditionNumber : Type 0
ConditionNumber = ℕ

-- a key of a partition's pool, from 1 (own)
abbrev pub KeyNumber : Type 0
KeyNumber = ℕ

-- an assigned or effective priority, or a ceiling, 0 of a number that is not in use (XSH 2.8.4)
abbrev pub Priority : Type 0
Priority = ℕ

-- a time in ticks, from 0 (own)
abbrev pub Tick : Type 0
Tick = ℕ

-- a number of ticks that something takes or has used (own)
abbrev pub Ticks : Type 0
Ticks = ℕ

-- an address of a partition's memory (RISC-V 1.4)
abbrev pub Pointer : Type 0
Pointer = ℕ

-- a number below 2^32 (RISC-V 2.1)
abbrev pub Word : Type 0
Word = ℕ

-- a number below 2^8 (RISC-V 1.4)
abbrev pub Byte : Type 0
Byte = ℕ

-- the byte that ends a line (own)
abbrev pub newline : List Byte
newline = 10 ∷ []
