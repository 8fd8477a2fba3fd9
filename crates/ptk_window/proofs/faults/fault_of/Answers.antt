use Rattle.std.proofs.Common.{rules}
use Rattle.ptk_window.proofs.faults.fault_of.Goals as goal

pub returns-then-from-end : goal.returns-then-from-end
returns-then-from-end c = search rules

pub returns-then-parts-index : goal.returns-then-parts-index
returns-then-parts-index c = search rules

pub returns-else-parts-index : goal.returns-else-parts-index
returns-else-parts-index c = search rules
