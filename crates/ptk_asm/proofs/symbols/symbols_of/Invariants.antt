use Rattle.std.proofs.Common.{◌≡◌, ◌++◌, map}
use Rattle.ptk_asm.specs.Symbols.{symbol_at}
use Rattle.ptk_asm.proofs.symbols.symbols_of.Given as goal

abbrev pub invariant-loop-name : goal.invariant-loop-name
invariant-loop-name l =
    l.symbols.items ++ map (symbol_at l.fn.layout.lengths) l.name-iterator
    ≡ map (symbol_at l.fn.layout.lengths) l.initial.name-iterator
