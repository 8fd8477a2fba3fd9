use Rattle.std.proofs.Common.{rules, arith}
use Rattle.ptk_cancel.proofs.Tables.{tables}
use Rattle.ptk_cancel.proofs.Tops.{tops}
use Rattle.ptk_cancel.proofs.table.Cancellations.pop.Goals as goal

pub returns-clause-told : goal.returns-clause-told
returns-clause-told c = search rules

pub returns-clause-moved : goal.returns-clause-moved
returns-clause-moved c = grind (arith, tables, tops)
