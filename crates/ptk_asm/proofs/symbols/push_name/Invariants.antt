use Rattle.std.proofs.Common.{◌≡◌, ◌++◌, length}
use Rattle.std.specs.Prelude.{string_bytes, filter}
use Rattle.ptk_asm.specs.Symbols.{is_ascii}
use Rattle.ptk_asm.proofs.symbols.push_name.Given as goal

abbrev pub invariant-loop-rest : goal.invariant-loop-rest
invariant-loop-rest l = string_bytes l.text ++ filter is_ascii l.rest ≡ string_bytes l.initial.text ++ filter is_ascii l.initial.rest

abbrev pub decreases-loop-rest : goal.decreases-loop-rest
decreases-loop-rest l = length l.rest
