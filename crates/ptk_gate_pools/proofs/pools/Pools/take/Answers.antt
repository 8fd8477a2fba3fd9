use Rattle.std.proofs.Common.{sym, ap}
use Rattle.ptk_gate_pools.specs.Held.{held}
use Rattle.ptk_gate_pools.specs.Pooled.{kept_of}
use Rattle.ptk_gate_pools.proofs.Hands.{all-held}
use Rattle.ptk_gate_pools.proofs.pools.Pools.take.Goals as goal

-- what was in hand is put back
pub returns : goal.returns
returns c = rw (← c.self.view_is) (sym (ap (held c.args.p) (all-held c.self.inside.hand (kept_of c.self.inside))))
