use Rattle.ptk_impact.proofs.Larger.{larger_same}
use Rattle.ptk_impact.proofs.limit_laws.larger_output_is_same_run.Goals as goal

pub returns : goal.returns
returns c = larger_same
