use Rattle.ptk_main_answers.proofs.answer.decoded_answer.Goals as goal

pub returns-in-Err-clause-silent : goal.returns-in-Err-clause-silent
returns-in-Err-clause-silent g c unlike = c.in-Err.ensures.silent (λ e. unlike (c.run_fault.ensures.write e))
