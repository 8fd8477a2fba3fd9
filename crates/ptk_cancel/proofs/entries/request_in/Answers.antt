use Rattle.std.proofs.Common.{rules}
use Rattle.ptk_cancel.proofs.Numbered.{numbers}
use Rattle.ptk_cancel.proofs.entries.request_in.Goals as goal

pub returns-then-place-cancellations : goal.returns-then-place-cancellations
returns-then-place-cancellations c = search (rules, numbers)
