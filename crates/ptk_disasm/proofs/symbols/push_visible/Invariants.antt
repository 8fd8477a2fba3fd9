use Rattle.std.proofs.Common.{◌≡◌, ◌++◌, length}
use Rattle.std.specs.Prelude.{string_bytes, filter}
use Rattle.ptk_disasm.specs.Tables.{is_visible}
use Rattle.ptk_disasm.proofs.symbols.push_visible.Given as goal

abbrev pub invariant-loop-rest : goal.invariant-loop-rest
invariant-loop-rest l = string_bytes l.out ++ filter is_visible l.rest ≡ string_bytes l.initial.out ++ filter is_visible l.initial.rest

abbrev pub decreases-loop-rest : goal.decreases-loop-rest
decreases-loop-rest l = length l.rest
