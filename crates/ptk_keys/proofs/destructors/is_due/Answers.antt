use Rattle.std.proofs.Common.{rules}
use Rattle.ptk_keys.proofs.destructors.is_due.Goals as goal

pub returns-then-destructor-ne0 : goal.returns-then-destructor-ne0
returns-then-destructor-ne0 c = search rules

pub returns-else-destructor-ne0 : goal.returns-else-destructor-ne0
returns-else-destructor-ne0 c = search rules
