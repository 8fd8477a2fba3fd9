use Rattle.ptk_tracepoints.proofs.Plans.{known_at}
use Rattle.ptk_tracepoints.proofs.window.window_at.Goals as goal

pub returns-in-Some-clause-known : goal.returns-in-Some-clause-known
returns-in-Some-clause-known c = known_at c.args.config.now c.plan.result.now _ _ _ c.plan.ensures.whole c.plan.ensures.value c.in-Some.ensures.own
