use Rattle.std.proofs.Common.{rules}
use Rattle.ptk_keys.proofs.destructors.is_due_after.Goals as goal

pub returns-then-passed-number : goal.returns-then-passed-number
returns-then-passed-number c = search rules
