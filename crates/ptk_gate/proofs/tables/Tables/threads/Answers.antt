use Rattle.std.proofs.Common.{rules}
use Rattle.ptk_gate.proofs.tables.Tables.threads.Goals as goal

pub returns-clause-threads : goal.returns-clause-threads
returns-clause-threads c = search rules

pub returns-clause-stored : goal.returns-clause-stored
returns-clause-stored c = search rules

pub returns-clause-queues : goal.returns-clause-queues
returns-clause-queues c = search rules
