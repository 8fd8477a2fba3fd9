use Rattle.std.proofs.Common.{arith}
use Rattle.ptk_threads.proofs.Slots.{changes}
use Rattle.ptk_threads.proofs.changes.put_in.Goals as goal

pub returns-then-i-slots-clause-links : goal.returns-then-i-slots-clause-links
returns-then-i-slots-clause-links c = grind (arith, changes)
