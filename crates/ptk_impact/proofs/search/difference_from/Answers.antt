use Rattle.std.proofs.Common.{inl, inr, arith}
use Rattle.std.proofs.lemmas.Bool.{cases_lt}
use Rattle.ptk_impact.proofs.search.difference_from.Goals as goal

pub loop-partition-preserved : goal.loop-partition-preserved
loop-partition-preserved c =
    let step = c.in-AgreeUntil.ensures c.args.plan.now c.args.other_plan.now c.args.partition c.args.other_partition c.loop-partition.tick c.is_plan.ensures c.is_plan-2.ensures c.turn_from-turn.ensures.turn c.turn_from-other_turn.ensures.turn in
    record {
      from = omega (arith, c.loop-partition.invariant.from, step.0);
      agree = λ k from below.
          elim (cases_lt k c.loop-partition.tick) [
            | inl early ↦ c.loop-partition.invariant.agree k from early
            | inr late ↦ step.1 k late below
          ];
    }
