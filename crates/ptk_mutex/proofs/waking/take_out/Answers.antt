use Rattle.std.proofs.Common.{rules}
use Rattle.ptk_mutex.proofs.waking.take_out.Goals as goal

pub returns-in-None : goal.returns-in-None
returns-in-None c = search rules
