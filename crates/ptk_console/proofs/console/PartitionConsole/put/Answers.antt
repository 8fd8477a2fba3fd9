use Rattle.std.proofs.Common.{rules}
use Rattle.ptk_console.proofs.console.PartitionConsole.put.Goals as goal

pub returns-clause-moved : goal.returns-clause-moved
returns-clause-moved c = search rules
