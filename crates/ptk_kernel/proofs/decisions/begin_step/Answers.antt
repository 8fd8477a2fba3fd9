use Rattle.std.proofs.Common.{rules}
use Rattle.ptk_kernel.proofs.decisions.begin_step.Goals as goal

pub returns-clause-told : goal.returns-clause-told
returns-clause-told c = search rules

pub returns-clause-moved : goal.returns-clause-moved
returns-clause-moved c = search rules
