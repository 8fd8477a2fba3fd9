use Rattle.std.proofs.Common.{rules}
use Rattle.ptk_system.proofs.system.System.status.Goals as goal

pub returns : goal.returns
returns c = search rules
