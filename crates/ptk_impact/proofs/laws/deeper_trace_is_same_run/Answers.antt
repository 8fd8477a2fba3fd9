use Rattle.ptk_impact.proofs.Runs.{deeper_run}
use Rattle.ptk_impact.proofs.laws.deeper_trace_is_same_run.Goals as goal

pub returns : goal.returns
returns c = deeper_run c.trace_is_all_that_differs.ensures
