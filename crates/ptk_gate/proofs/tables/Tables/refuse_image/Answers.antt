use Rattle.std.proofs.Common.{◌<◌, length, sym, subst}
use Rattle.ptk_gate_pools.specs.Kept.{Kept, part_at, limits_at}
use Rattle.ptk_gate.specs.Whole.{IsBlank}
use Rattle.ptk_gate.proofs.Loads.{whole_refused}
use Rattle.ptk_gate.proofs.tables.Tables.refuse_image.Goals as goal

pub invariant_of-self : goal.invariant_of-self
invariant_of-self c =
    let lt : c.args.p < length c.self.inside.pools.elsewhere.limits = subst (λ (kept : Kept). c.args.p < length kept.limits) (sym c.self.view_is) c.requires.partition in
    whole_refused c.args.p c.args.fault c.self.inside.pools c.take.new.self c.refuse_image.new.pools c.take.ensures c.refuse_image.ensures c.self.invariant lt
    (subst (λ (kept : Kept). IsBlank (limits_at c.args.p kept) (part_at c.args.p kept)) (sym c.self.view_is) c.requires.blank)
