use Rattle.ptk_roster.proofs.Raising.{same_owner_raises_alike}
use Rattle.ptk_roster.proofs.laws.same_owner_raises_alike.Goals as goal

pub returns : goal.returns
returns c = same_owner_raises_alike
