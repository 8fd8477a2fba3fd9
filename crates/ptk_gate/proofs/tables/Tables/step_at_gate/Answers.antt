use Rattle.std.proofs.Common.{◌≡◌, ◌<◌, Some, length, sym, subst}
use Rattle.ptk_words_model.specs.Unwinding.{after_gate_step}
use Rattle.ptk_gate_pools.specs.Kept.{Kept, part_at}
use Rattle.ptk_gate_pools.specs.Held.{all_of}
use Rattle.ptk_gate_pools.proofs.Hands.{lifted}
use Rattle.ptk_gate.proofs.Wholes.{whole_gate_step}
use Rattle.ptk_gate.proofs.tables.Tables.step_at_gate.Goals as goal

pub invariant_of-self : goal.invariant_of-self
invariant_of-self c =
    let lt : c.args.p < length c.self.inside.pools.elsewhere.limits = subst (λ (kept : Kept). c.args.p < length kept.limits) (sym c.self.view_is) c.requires.partition in
    whole_gate_step c.args.p c.args.t c.args.thread c.self.inside.pools c.take.new.self c.step_at_gate.new.pools c.take.ensures c.step_at_gate.ensures c.self.invariant lt
    (subst (λ (kept : Kept). (part_at c.args.p kept).running ≡ Some c.args.t) (sym c.self.view_is) c.requires.running)

pub returns : goal.returns
returns c = rw (← c.self.view_is) (lifted c.args.p (λ limits s. after_gate_step c.args.thread.phase c.args.t c.args.thread s) (all_of c.self.inside.pools) c.take.new.self c.step_at_gate.new.pools c.take.ensures c.step_at_gate.ensures)
