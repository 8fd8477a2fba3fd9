use Rattle.std.proofs.Common.{rules, arith}
use Rattle.std.proofs.lemmas.Grind.{common_steps}
use Rattle.ptk_console.proofs.console.PartitionConsole.next_arrival.Goals as goal

pub returns-then-ticks-clause-told : goal.returns-then-ticks-clause-told
returns-then-ticks-clause-told c = search rules

pub returns-then-ticks-clause-moved : goal.returns-then-ticks-clause-moved
returns-then-ticks-clause-moved c = search rules

pub returns-clause-told : goal.returns-clause-told
returns-clause-told c = grind (arith, common_steps)
