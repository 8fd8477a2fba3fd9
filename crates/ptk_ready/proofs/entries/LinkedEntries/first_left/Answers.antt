use Rattle.std.proofs.Common.{rules}
use Rattle.ptk_ready.proofs.entries.LinkedEntries.first_left.Goals as goal

pub returns-then-was_alone-clause-bitmap : goal.returns-then-was_alone-clause-bitmap
returns-then-was_alone-clause-bitmap g c = search rules
