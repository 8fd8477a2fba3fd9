use Rattle.std.proofs.Common.{rules, arith}
use Rattle.ptk_gate_pools.proofs.Hands.{handed}
use Rattle.ptk_gate_pools.proofs.pools.Pools.step_memory.Goals as goal

pub returns-clause-seen : goal.returns-clause-seen
returns-clause-seen c = search rules

pub returns-clause-moved : goal.returns-clause-moved
returns-clause-moved c = grind (arith, handed)
