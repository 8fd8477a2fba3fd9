use Rattle.std.proofs.Common.{rules}
use Rattle.ptk_system_machine.proofs.account.Account.count.Goals as goal

pub returns-in-Lost : goal.returns-in-Lost
returns-in-Lost c = search rules
