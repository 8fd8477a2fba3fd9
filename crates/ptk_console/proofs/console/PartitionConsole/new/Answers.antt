use Rattle.std.proofs.Common.{rules, arith}
use Rattle.ptk_console.proofs.console.PartitionConsole.new.Goals as goal

pub invariant_of-result : goal.invariant_of-result
invariant_of-result c = (
  omega arith,
  search rules,
  rw c.in_ok-output.ensures.items (omega arith),
  omega (arith, c.in_ok-output.ensures.capacity),
  omega arith,
)
