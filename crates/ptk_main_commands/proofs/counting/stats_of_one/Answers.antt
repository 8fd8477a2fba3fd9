use Rattle.std.proofs.Common.{inl, inr}
use Rattle.ptk_main_commands.proofs.counting.stats_of_one.Goals as goal

pub returns-in-Err-clause-silent : goal.returns-in-Err-clause-silent
returns-in-Err-clause-silent g c = λ host. c.in-Err.ensures.silent (λ e. host (inr (c.run_fault.ensures.write e))) (λ _ e. host (inl (c.run_fault.ensures.memory e)))
