-- Symbols of the code as those of the definition, and their order.
use Rattle.std.specs.Prelude.{ℕ, ◌≡◌, ◌==◌, List, map, find, Option, option_map}
use Rattle.std.specs.List.Sorted.{IsNonDecreasingBy}
use Rattle.ptk_disasm.specs.declared.symbol_lines.Symbol.{Symbol}

-- a symbol's address and name (own)
abbrev pub pair : Symbol → ℕ × List ℕ
pair s = (s.address, s.name.now)

-- the addresses and names of symbols (own)
abbrev pub pairs : List Symbol → List (ℕ × List ℕ)
pairs symbols = map pair symbols

-- the address and name of a symbol, if there is one (own)
abbrev pub found_pair : Option Symbol → Option (ℕ × List ℕ)
found_pair found = option_map pair found

-- symbols in order of addresses (nm -n)
abbrev pub AreInOrder : List Symbol → Type 0
AreInOrder symbols = IsNonDecreasingBy (λ s. s.address) symbols

-- symbols in order of addresses, of which the first at each address is that of a table (own)
abbrev pub IsOrderOf : List (ℕ × List ℕ) → List Symbol → Type 0
IsOrderOf table symbols = AreInOrder symbols × ((a : ℕ) → find (λ s. s.0 == a) (pairs symbols) ≡ find (λ s. s.0 == a) table)
