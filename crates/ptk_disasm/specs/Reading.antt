-- What the code makes of a symbol table.
use Rattle.std.specs.Prelude.{ℕ, ◌≡◌, List, Result, Err}
use Rattle.ptk_disasm.specs.declared.fault.SymbolFault.{SymbolFault}
use Rattle.ptk_disasm.specs.declared.fault.SymbolFault.TheVariants as fault

-- the number of the first line that is no symbol; of memory nothing is said (own)
abbrev pub IsWrongLine : SymbolFault → Result (List (ℕ × List ℕ)) ℕ → Type 0
IsWrongLine (fault.Line n) found = found ≡ Err n
IsWrongLine fault.Memory found = Unit {0}
