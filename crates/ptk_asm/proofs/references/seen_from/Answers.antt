use Rattle.std.proofs.Common.{rules}
use Rattle.ptk_asm.proofs.references.seen_from.Goals as goal

pub returns-in-Some : goal.returns-in-Some
returns-in-Some c = search rules
