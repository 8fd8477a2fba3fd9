use Rattle.std.proofs.Common.{subst}
use Rattle.std.specs.Prelude.{string_bytes}
use Rattle.ptk_asm.specs.Symbols.{IsLabelTable}
use Rattle.ptk_asm.proofs.Tables.{label_table}
use Rattle.ptk_asm.proofs.symbols.label_table.Goals as goal

pub returns-in-Ok-clause-table : goal.returns-in-Ok-clause-table
returns-in-Ok-clause-table c =
    let table = string_bytes c.in-Ok.table in
    subst (λ source. IsLabelTable source table) c.as_bytes.ensures.value
    (label_table c.as_bytes.result.now table c.in_ok-layout.layout c.in_ok-layout.ensures.ok c.in-Ok.ensures.found c.in-Ok.ensures.apart c.in-Ok.ensures.table)
