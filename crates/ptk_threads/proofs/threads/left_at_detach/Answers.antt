use Rattle.std.proofs.Common.{rules}
use Rattle.ptk_threads.proofs.threads.left_at_detach.Goals as goal

pub returns-then-eq : goal.returns-then-eq
returns-then-eq c = search rules

pub returns : goal.returns
returns c = search rules
