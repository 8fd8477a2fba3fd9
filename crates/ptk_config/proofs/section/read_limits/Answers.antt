use Rattle.std.proofs.Common.{rules}
use Rattle.ptk_config.proofs.section.read_limits.Goals as goal

pub returns-in_err-output-clause-value : goal.returns-in_err-output-clause-value
returns-in_err-output-clause-value c = search rules

pub returns-in_err-trace-clause-value : goal.returns-in_err-trace-clause-value
returns-in_err-trace-clause-value c = search rules

pub returns-clause-value : goal.returns-clause-value
returns-clause-value c = search rules
