use Rattle.std.proofs.Common.{rules}
use Rattle.ptk_config.proofs.stage.read_stage.Goals as goal

pub returns-in_err-values-clause-value : goal.returns-in_err-values-clause-value
returns-in_err-values-clause-value c = search rules
