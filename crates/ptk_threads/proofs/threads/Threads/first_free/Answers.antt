use Rattle.std.proofs.Common.{arith}
use Rattle.ptk_threads.proofs.Slots.{free_numbers}
use Rattle.ptk_threads.proofs.threads.Threads.first_free.Goals as goal

pub returns : goal.returns
returns c = grind (arith, free_numbers)

pub returns-in_err-place : goal.returns-in_err-place
returns-in_err-place c = grind (arith, free_numbers)
