use Rattle.std.proofs.Common.{◌≡◌, take, flat_map}
use Rattle.std.specs.Prelude.{string_bytes}
use Rattle.ptk_asm.specs.Symbols.{symbol_line}
use Rattle.ptk_asm.proofs.symbols.text_of.Given as goal

abbrev pub invariant-loop-symbol : goal.invariant-loop-symbol
invariant-loop-symbol l = string_bytes l.text ≡ flat_map symbol_line (take l.symbol-index l.symbols)
