use Rattle.std.proofs.Common.{rules}
use Rattle.ptk_system_machine.proofs.account.Account.count_row.Goals as goal

pub returns : goal.returns
returns c = search rules
