use Rattle.std.proofs.Common.{◌∙◌, ap, sym, subst, length}
use Rattle.ptk_gate_pools.specs.Held.{held}
use Rattle.ptk_gate_pools.specs.Pooled.{kept_of}
use Rattle.ptk_gate_pools.proofs.Hands.{held-put}
use Rattle.ptk_gate_pools.proofs.Opened.{parts_of}
use Rattle.ptk_gate_pools.proofs.Specific.{cleared_put, AreSizedHere}
use Rattle.ptk_gate_pools.proofs.pools.Pools.clear_keys.Goals as goal

pub returns : goal.returns
returns c =
    rw (← c.self.view_is)
    (ap (held c.self.inside.hand) (cleared_put c.self.inside.hand c.args.t c.self.inside c.clear.new.self c.clear.ensures (subst (AreSizedHere c.args.t) (sym c.self.view_is) c.requires.sized))
    ∙ held-put (length c.self.inside.limits.items) c.self.inside.hand _ (kept_of c.self.inside) (parts_of c.self.inside c.self.invariant) c.self.invariant.in_hand)
