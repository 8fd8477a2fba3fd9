use Rattle.std.proofs.Common.{[]}
use Rattle.ptk_asm.proofs.statements.statement_with.Goals as goal

pub returns-clause-stands : goal.returns-clause-stands
returns-clause-stands c = (c.in_ok-form.ensures.ok []).1
