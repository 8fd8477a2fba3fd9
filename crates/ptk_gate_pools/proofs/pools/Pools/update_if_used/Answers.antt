use Rattle.ptk_gate_pools.proofs.Changed.{changed_pooled, changed_held}
use Rattle.ptk_gate_pools.proofs.pools.Pools.update_if_used.Goals as goal

pub invariant_of-self : goal.invariant_of-self
invariant_of-self g c = changed_pooled c.self.inside.hand c.args.t (g.C.ThreadChange.changed c.args.change.now) c.self.inside c.update_if_used.new.self c.update_if_used.ensures c.requires.priority c.requires.mutex c.self.invariant

pub returns : goal.returns
returns g c = rw (← c.self.view_is) (changed_held c.self.inside.hand c.args.t (g.C.ThreadChange.changed c.args.change.now) c.self.inside c.update_if_used.new.self c.update_if_used.ensures c.self.invariant c.self.invariant.in_hand)
