use Rattle.ptk_impact.proofs.Spreads.{spreads}
use Rattle.ptk_impact.proofs.window_laws.agreement_spreads.Goals as goal

pub returns : goal.returns
returns c = spreads
