use Rattle.ptk_impact.proofs.Larger.{only_added_to}
use Rattle.ptk_impact.proofs.limit_laws.output_is_only_added_to.Goals as goal

pub returns : goal.returns
returns c = only_added_to
