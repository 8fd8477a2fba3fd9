use Rattle.std.proofs.Common.{inr}
use Rattle.ptk_main_commands.proofs.standing.standing_answer.Goals as goal

pub returns-in-Err-clause-silent : goal.returns-in-Err-clause-silent
returns-in-Err-clause-silent g c = λ host. c.in-Err.ensures.silent (λ e. host (inr (c.run_fault.ensures.write e)))
