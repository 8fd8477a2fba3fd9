use Rattle.std.proofs.Common.{rules}
use Rattle.ptk_clock.proofs.threads.PartitionSlots.first.Goals as goal

pub returns : goal.returns
returns c = search rules
