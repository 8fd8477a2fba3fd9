use Rattle.std.proofs.Common.{◌≤◌, arith, rules}
use Rattle.ptk_system_machine.proofs.turns.idle_from.Goals as goal

pub returns-in_default-clause-full : goal.returns-in_default-clause-full
returns-in_default-clause-full c = λ k within idle. let le : k ≤ c.in-Some.until = c.in-Some.ensures.full k within idle in omega arith

pub returns-in-Some-clause-idle : goal.returns-in-Some-clause-idle
returns-in-Some-clause-idle c = search rules
