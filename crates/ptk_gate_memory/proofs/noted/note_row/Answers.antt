use Rattle.std.proofs.Common.{◌-◌, ◌∙◌, arith}
use Rattle.ptk_words_model.specs.PlainSteps.{core}
use Rattle.ptk_gate_memory.proofs.RowsTraced.{noted_last}
use Rattle.ptk_gate_memory.proofs.noted.note_row.Goals as goal

pub returns-then-steps-gt0-clause-last : goal.returns-then-steps-gt0-clause-last
returns-then-steps-gt0-clause-last c =
    c.put_last.ensures
    ∙ noted_last c.args.tick c.args.thread c.run_noted-steps.result (core c.args.cpu.now c.args.memory.now) c.args.last.now c.run_noted-steps.new.entries _ (c.run_noted-steps.result - 1) _ (omega (arith, c.if-steps-gt0.true)) c.run_noted-steps.ensures.noted
