use Rattle.std.proofs.Common.{◌<◌, length, sym, subst}
use Rattle.ptk_words_model.specs.Decision.{after_arrivals}
use Rattle.ptk_gate_pools.specs.Kept.{Kept}
use Rattle.ptk_gate_pools.specs.Held.{all_of}
use Rattle.ptk_gate_pools.proofs.Hands.{lifted}
use Rattle.ptk_gate.proofs.Wholes.{whole_arrivals}
use Rattle.ptk_gate.proofs.tables.Tables.arrive_due.Goals as goal

pub invariant_of-self : goal.invariant_of-self
invariant_of-self c =
    let lt : c.args.p < length c.self.inside.pools.elsewhere.limits = subst (λ (kept : Kept). c.args.p < length kept.limits) (sym c.self.view_is) c.requires.partition in
    whole_arrivals c.args.p c.args.tick c.self.inside.pools c.take.new.self c.arrive_due.new.pools c.take.ensures c.arrive_due.ensures c.self.invariant lt

pub returns : goal.returns
returns c = rw (← c.self.view_is) (lifted c.args.p (λ limits s. after_arrivals limits c.args.tick s) (all_of c.self.inside.pools) c.take.new.self c.arrive_due.new.pools c.take.ensures c.arrive_due.ensures)
