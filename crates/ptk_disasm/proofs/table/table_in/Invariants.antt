use Rattle.std.proofs.Common.{◌≡◌, ◌+◌, ◌≤◌, length}
use Rattle.std.specs.Prelude.{map}
use Rattle.ptk_asm_language.specs.Lines.{raw_lines}
use Rattle.ptk_disasm.specs.Tables.{table_of, table_from}
use Rattle.ptk_disasm.proofs.Read.{before}
use Rattle.ptk_disasm.proofs.table.table_in.Given as goal

abbrev pub invariant-lines : goal.invariant-lines
invariant-lines l =
    (l.number + length l.rest ≤ 1 + length l.initial.rest)
    × (before (map (λ x. (x.address, x.name.now)) l.symbols.items) (table_from l.number (raw_lines l.rest)) ≡ table_of l.initial.rest)

abbrev pub decreases-lines : goal.decreases-lines
decreases-lines l = length l.rest
