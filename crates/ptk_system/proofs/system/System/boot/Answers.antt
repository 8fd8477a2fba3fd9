use Rattle.std.proofs.Common.{rules}
use Rattle.ptk_system.proofs.system.System.boot.Goals as goal

pub returns-in_err-machine-clause-missing : goal.returns-in_err-machine-clause-missing
returns-in_err-machine-clause-missing c = search rules
