use Rattle.ptk_asm.proofs.Sources.{statements-stand}
use Rattle.ptk_asm.proofs.laws.statements_stand.Goals as goal

pub returns : goal.returns
returns c = statements-stand
