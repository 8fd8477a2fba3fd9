use Rattle.std.proofs.Common.{rules}
use Rattle.ptk_kernel.proofs.events.idle_until.Goals as goal

pub returns : goal.returns
returns c = search rules
