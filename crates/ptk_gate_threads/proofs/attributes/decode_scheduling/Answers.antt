use Rattle.std.proofs.Common.{rules}
use Rattle.ptk_gate_threads.proofs.attributes.decode_scheduling.Goals as goal

pub returns-in_err-policy : goal.returns-in_err-policy
returns-in_err-policy c = search rules

pub returns-in_err-priority : goal.returns-in_err-priority
returns-in_err-priority c = search rules

pub returns : goal.returns
returns c = search rules
