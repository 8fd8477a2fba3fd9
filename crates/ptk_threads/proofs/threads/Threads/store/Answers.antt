use Rattle.std.proofs.Common.{arith}
use Rattle.ptk_threads.proofs.Slots.{pools}
use Rattle.ptk_threads.proofs.threads.Threads.store.Goals as goal

pub returns : goal.returns
returns c = grind (arith, pools)
