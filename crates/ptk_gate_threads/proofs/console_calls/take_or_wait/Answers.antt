use Rattle.std.proofs.Common.{rules}
use Rattle.ptk_gate_threads.proofs.console_calls.take_or_wait.Goals as goal

pub returns-in-None-clause-moved : goal.returns-in-None-clause-moved
returns-in-None-clause-moved c = search rules
