use Rattle.std.proofs.Common.{◌<◌, length, sym, ◌∙◌, ap, subst}
use Rattle.ptk_words_model.specs.Decision.{after_turn, runner_of}
use Rattle.ptk_gate_pools.specs.Kept.{Kept, limits_at, part_at, put_part}
use Rattle.ptk_gate_pools.specs.Held.{all_of}
use Rattle.ptk_gate_pools.proofs.Hands.{lifted}
use Rattle.ptk_gate.proofs.CallSteps.{whole_turn}
use Rattle.ptk_gate.proofs.tables.Tables.take_call.Goals as goal

pub invariant_of-self : goal.invariant_of-self
invariant_of-self c =
    let lt : c.args.p < length c.self.inside.pools.elsewhere.limits = subst (λ (kept : Kept). c.args.p < length kept.limits) (sym c.self.view_is) c.requires.partition in
    whole_turn c.args.p c.args.tick c.args.room c.self.inside.pools c.take.new.self c.take_turn.new.pools c.take.ensures c.take_turn.ensures.moved c.self.invariant lt

pub returns-clause-moved : goal.returns-clause-moved
returns-clause-moved c =
    lifted c.args.p (λ limits s. after_turn limits c.args.tick c.args.room (runner_of s) s) (all_of c.self.inside.pools) c.take.new.self c.take_turn.new.pools c.take.ensures c.take_turn.ensures.moved
    ∙ ap (λ (kept : Kept). put_part c.args.p (after_turn (limits_at c.args.p kept) c.args.tick c.args.room (runner_of (part_at c.args.p kept)) (part_at c.args.p kept)) kept) c.self.view_is
