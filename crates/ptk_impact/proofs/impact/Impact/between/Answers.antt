use Rattle.ptk_impact.proofs.Runs.{runs_alike}
use Rattle.ptk_impact.proofs.impact.Impact.between.Goals as goal

pub returns-clause-runs : goal.returns-clause-runs
returns-clause-runs c =
    runs_alike c.same_view_is_same_run.ensures c.deeper_trace_is_same_run.ensures c.args.old.now c.args.new.now
    c.of_views.ensures.configured.0 c.of_views.ensures.configured.1 c.of_views.result c.of_views.ensures.views
