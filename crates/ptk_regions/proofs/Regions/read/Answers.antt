use Rattle.std.proofs.Common.{rules}
use Rattle.ptk_regions.proofs.Regions.read.Goals as goal

pub returns : goal.returns
returns c = search rules
