use Rattle.std.proofs.Common.{rules}
use Rattle.ptk_words.proofs.calls.Call.cost.Goals as goal

pub returns-in-CondBroadcast-clause-table : goal.returns-in-CondBroadcast-clause-table
returns-in-CondBroadcast-clause-table c = search rules
