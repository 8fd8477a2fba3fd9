use Rattle.std.proofs.Common.{refl}
use Rattle.ptk_gate_pools.proofs.Places.{some_bare}
use Rattle.ptk_gate_pools.proofs.pools.Pools.mutex_numbered.Goals as goal

pub returns : goal.returns
returns c = rw (← c.self.view_is, c.numbered_in.ensures, c.mutex_slots.ensures.mutexes, some_bare) refl
