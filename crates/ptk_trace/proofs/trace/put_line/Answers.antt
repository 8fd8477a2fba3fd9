use Rattle.std.proofs.Common.{arith}
use Rattle.std.proofs.lemmas.Grind.{common_steps}
use Rattle.ptk_trace.proofs.trace.put_line.Goals as goal

pub returns-clause-step : goal.returns-clause-step
returns-clause-step g c = record { positive = omega arith; in_range = omega arith; pc_fits = omega arith; word_fits = omega arith; a0_fits = omega arith }

pub returns-clause-line : goal.returns-clause-line
returns-clause-line c = grind (arith, common_steps)
