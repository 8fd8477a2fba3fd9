use Rattle.std.proofs.Common.{◌≡◌, length}
use Rattle.ptk_disasm.specs.Tables.{address_behind}
use Rattle.ptk_disasm.proofs.symbol_lines.address_of.Given as goal

abbrev pub invariant-loop-rest : goal.invariant-loop-rest
invariant-loop-rest l = address_behind l.address l.rest ≡ address_behind 0 l.initial.rest

abbrev pub decreases-loop-rest : goal.decreases-loop-rest
decreases-loop-rest l = length l.rest
