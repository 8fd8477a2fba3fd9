use Rattle.std.proofs.Common.{rules}
use Rattle.ptk_threads.proofs.link.QueueName.place.Goals as goal

pub returns-in-MutexWaiters-clause-value : goal.returns-in-MutexWaiters-clause-value
returns-in-MutexWaiters-clause-value c = search rules
