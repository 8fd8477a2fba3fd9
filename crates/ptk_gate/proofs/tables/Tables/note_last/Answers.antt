use Rattle.std.proofs.Common.{◌<◌, length, sym, subst}
use Rattle.ptk_gate_pools.specs.Kept.{Kept}
use Rattle.ptk_gate.proofs.Wholes.{whole_last}
use Rattle.ptk_gate.proofs.tables.Tables.note_last.Goals as goal

pub invariant_of-self : goal.invariant_of-self
invariant_of-self c =
    let lt : c.args.p < length c.self.inside.pools.elsewhere.limits = subst (λ (kept : Kept). c.args.p < length kept.limits) (sym c.self.view_is) c.requires.partition in
    whole_last c.args.p c.args.entry c.self.inside.pools c.take.new.self c.note_last.new.self c.take.ensures c.note_last.ensures c.self.invariant lt
