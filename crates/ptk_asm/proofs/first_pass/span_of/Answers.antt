use Rattle.std.proofs.Common.{rules}
use Rattle.ptk_asm.proofs.first_pass.span_of.Goals as goal

pub returns-clause-value : goal.returns-clause-value
returns-clause-value c = search rules
