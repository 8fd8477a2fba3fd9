use Rattle.std.proofs.Common.{arith}
use Rattle.ptk_words.proofs.Pools.{changed_twice}
use Rattle.ptk_gate_pools.proofs.Hands.{handed}
use Rattle.ptk_gate_pools.proofs.Stored.{stored}
use Rattle.ptk_gate_pools.proofs.pools.Pools.end_turn_with.Goals as goal

pub returns : goal.returns
returns c = grind (arith, handed, stored, changed_twice)
