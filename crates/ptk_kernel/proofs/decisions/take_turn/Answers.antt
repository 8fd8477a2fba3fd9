use Rattle.std.proofs.Common.{rules}
use Rattle.ptk_kernel.proofs.decisions.take_turn.Goals as goal

pub returns-in-None-clause-told : goal.returns-in-None-clause-told
returns-in-None-clause-told c = search rules
