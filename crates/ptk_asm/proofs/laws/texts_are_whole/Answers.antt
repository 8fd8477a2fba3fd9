use Rattle.ptk_asm.proofs.Sources.{texts-whole}
use Rattle.ptk_asm.proofs.laws.texts_are_whole.Goals as goal

pub returns : goal.returns
returns c = texts-whole
