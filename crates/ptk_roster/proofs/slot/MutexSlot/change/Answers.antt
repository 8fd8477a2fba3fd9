use Rattle.std.proofs.Common.{rules}
use Rattle.ptk_roster.proofs.slot.MutexSlot.change.Goals as goal

pub returns : goal.returns
returns c = search rules
