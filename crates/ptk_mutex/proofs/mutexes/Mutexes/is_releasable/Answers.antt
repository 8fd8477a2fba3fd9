use Rattle.std.proofs.Common.{arith}
use Rattle.ptk_roster.proofs.Bare.{bares}
use Rattle.ptk_mutex.proofs.mutexes.Mutexes.is_releasable.Goals as goal

pub returns-in-Some-clause-told : goal.returns-in-Some-clause-told
returns-in-Some-clause-told c = grind (arith, bares)
