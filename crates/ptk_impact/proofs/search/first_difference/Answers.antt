use Rattle.std.specs.Prelude.{IfSome}
use Rattle.ptk_impact.specs.Agreement.{IsDifference}
use Rattle.ptk_impact.proofs.Joined.{answered, chosen_is, sooner}
use Rattle.ptk_impact.proofs.search.first_difference.Goals as goal

pub returns : goal.returns
returns c =
    let a = c.args.plan.now in
    let b = c.args.other_plan.now in
    let p = c.args.partition in
    let q = c.args.other_partition in
    let near = c.difference_near_stages-near_own in
    let other_near = c.difference_near_stages-near_other in
    let differ : IfSome c.earlier.result (IsDifference a p b q) = chosen_is (IsDifference a p b q) near.result other_near.result c.earlier.result c.earlier.ensures.one near.ensures.differ other_near.ensures.differ in
    let all = answered a p b q c.is_plan.ensures c.is_plan-2.ensures c.earlier.result differ
    (sooner a a p b q near.result c.earlier.result (λ k before. (c.earlier.ensures.before k before).0) near.ensures.agree)
    (sooner b a p b q other_near.result c.earlier.result (λ k before. (c.earlier.ensures.before k before).1) other_near.ensures.agree) in
    record { same = all.0; first = all.1 }
