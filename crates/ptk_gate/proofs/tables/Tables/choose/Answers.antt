use Rattle.std.proofs.Common.{◌≡◌, ◌<◌, true, length, sym, subst}
use Rattle.ptk_words.specs.Faults.{is_active}
use Rattle.ptk_words_model.specs.Schedule.{after_choice}
use Rattle.ptk_gate_pools.specs.Kept.{Kept, part_at}
use Rattle.ptk_gate_pools.specs.Held.{all_of}
use Rattle.ptk_gate_pools.proofs.Hands.{lifted}
use Rattle.ptk_gate.proofs.Wholes.{whole_choice}
use Rattle.ptk_gate.proofs.tables.Tables.choose.Goals as goal

pub invariant_of-self : goal.invariant_of-self
invariant_of-self c =
    let lt : c.args.p < length c.self.inside.pools.elsewhere.limits = subst (λ (kept : Kept). c.args.p < length kept.limits) (sym c.self.view_is) c.requires.partition in
    whole_choice c.args.p c.self.inside.pools c.take.new.self c.choose.new.pools c.take.ensures c.choose.ensures c.self.invariant lt
    (subst (λ (kept : Kept). is_active (part_at c.args.p kept).status ≡ true) (sym c.self.view_is) c.requires.active)

pub returns : goal.returns
returns c = rw (← c.self.view_is) (lifted c.args.p (λ limits s. after_choice s) (all_of c.self.inside.pools) c.take.new.self c.choose.new.pools c.take.ensures c.choose.ensures)
