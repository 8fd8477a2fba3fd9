use Rattle.std.proofs.Common.{rules}
use Rattle.ptk_keys.proofs.table.KeyTable.create.Goals as goal

pub returns-in-Some-clause-moved : goal.returns-in-Some-clause-moved
returns-in-Some-clause-moved c = search rules
