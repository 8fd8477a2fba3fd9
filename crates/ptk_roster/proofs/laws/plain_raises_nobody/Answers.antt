use Rattle.ptk_roster.proofs.Raising.{plain_raises_nobody, plain_wait_raises_nobody}
use Rattle.ptk_roster.proofs.laws.plain_raises_nobody.Goals as goal

pub returns-clause-mutex : goal.returns-clause-mutex
returns-clause-mutex c = plain_raises_nobody

pub returns-clause-waiter : goal.returns-clause-waiter
returns-clause-waiter c = plain_wait_raises_nobody
