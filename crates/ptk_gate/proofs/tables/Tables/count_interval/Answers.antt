use Rattle.std.proofs.Common.{◌<◌, length, sym, subst}
use Rattle.ptk_words_model.specs.Priority.{thread_at}
use Rattle.ptk_words_model.specs.Schedule.{after_interval}
use Rattle.ptk_gate_pools.specs.Kept.{Kept}
use Rattle.ptk_gate_pools.specs.Held.{all_of}
use Rattle.ptk_gate_pools.proofs.Hands.{lifted}
use Rattle.ptk_gate.proofs.Wholes.{interval_here, whole_interval}
use Rattle.ptk_gate.proofs.tables.Tables.count_interval.Goals as goal

pub invariant_of-self : goal.invariant_of-self
invariant_of-self c =
    let lt : c.args.p < length c.self.inside.pools.elsewhere.limits = subst (λ (kept : Kept). c.args.p < length kept.limits) (sym c.self.view_is) c.requires.partition in
    whole_interval c.args.p c.args.cost c.args.t c.limits-limits.result c.self.inside.pools c.take.new.self c.count_interval.new.pools c.take.ensures c.limits-limits.ensures c.count_interval.ensures c.self.invariant lt

pub returns : goal.returns
returns c = rw (← c.self.view_is) (lifted c.args.p (λ limits s. after_interval limits.interval c.args.cost c.args.t (thread_at s.locks c.args.t) s) (all_of c.self.inside.pools) c.take.new.self c.count_interval.new.pools c.take.ensures
    (interval_here c.args.cost c.args.t c.limits-limits.result c.take.new.self c.count_interval.new.pools c.limits-limits.ensures c.count_interval.ensures))
