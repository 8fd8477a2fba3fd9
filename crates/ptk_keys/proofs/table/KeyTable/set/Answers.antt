use Rattle.std.proofs.Common.{arith}
use Rattle.ptk_keys.proofs.Tables.{tables}
use Rattle.ptk_keys.proofs.table.KeyTable.set.Goals as goal

pub returns : goal.returns
returns c = grind (arith, tables)
