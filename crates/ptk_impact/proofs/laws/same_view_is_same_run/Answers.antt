use Rattle.ptk_impact.proofs.Runs.{same_run}
use Rattle.ptk_impact.proofs.laws.same_view_is_same_run.Goals as goal

pub returns : goal.returns
returns c = same_run
