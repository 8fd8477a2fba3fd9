use Rattle.ptk_asm.proofs.Sources.{lengths-counted}
use Rattle.ptk_asm.proofs.laws.lengths_are_counted.Goals as goal

pub returns : goal.returns
returns c = lengths-counted
