use Rattle.std.proofs.Common.{rules}
use Rattle.ptk_asm.proofs.layout.Layout.add_label.Goals as goal

pub returns-clause-ok : goal.returns-clause-ok
returns-clause-ok c = search rules
