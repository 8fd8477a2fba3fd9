use Rattle.std.proofs.Common.{◌≡◌, ℕ, ◌*◌, get_or, inl, inr, subst, rules, arith}
use Rattle.std.proofs.lemmas.Bool.{cases_lt}
use Rattle.std.proofs.lemmas.Grind.{common_steps}
use Rattle.ptk_impact.specs.Agreement.{IsDifference}
use Rattle.ptk_impact.proofs.Joined.{chosen_is, found_before, found_is}
use Rattle.ptk_impact.proofs.search.difference_near_stages.Goals as goal

pub loop-stage-preserved : goal.loop-stage-preserved
loop-stage-preserved c =
    let a = c.args.plan.now in
    let b = c.args.other_plan.now in
    let p = c.args.partition in
    let q = c.args.other_partition in
    let begin = c.begin_of-begin.result in
    let found = c.difference_from-found.result in
    let chosen = c.earlier-first.ensures in
    record {
      differ = chosen_is (IsDifference a p b q) c.loop-stage.first found c.earlier-first.result chosen.one c.loop-stage.invariant.differ (found_is a p b q begin found c.difference_from-found.ensures);
      agree = λ i k d below from close before.
          let befores = chosen.before k before in
          elim (cases_lt i c.loop-stage.stage) [
            | inl earlier ↦ c.loop-stage.invariant.agree i k d earlier from close befores.0
            | inr last ↦
                let place : i ≡ c.loop-stage.stage = omega (arith, below, last) in
                let at : begin ≡ (get_or c.args.staged.now.stages i d).from * c.args.staged.now.frame = subst (λ (n : ℕ). begin ≡ (get_or c.args.staged.now.stages n d).from * c.args.staged.now.frame) (omega (arith, place)) (c.begin_of-begin.ensures.begin d) in
                found_before a p b q begin found c.difference_from-found.ensures k (omega (arith, at, from)) (omega (arith, at, close)) befores.1
          ];
    }

pub returns-clause-agree : goal.returns-clause-agree
returns-clause-agree c = first_of (search rules, grind (arith, common_steps))
