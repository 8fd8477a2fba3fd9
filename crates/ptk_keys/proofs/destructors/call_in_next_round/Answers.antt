use Rattle.std.proofs.Common.{arith}
use Rattle.ptk_keys.proofs.Due.{due}
use Rattle.ptk_keys.proofs.destructors.call_in_next_round.Goals as goal

pub returns : goal.returns
returns c = grind (arith, due)
