use Rattle.std.proofs.Common.{◌<◌, arith}
use Rattle.ptk_words_model.specs.PlainSteps.{core}
use Rattle.ptk_gate_memory.proofs.RowsTraced.{last_told}
use Rattle.ptk_gate_memory.proofs.traced.run_unkept.Goals as goal

pub returns-then-steps-gt0-clause-last : goal.returns-then-steps-gt0-clause-last
returns-then-steps-gt0-clause-last c =
    let first = core c.args.cpu.now c.args.memory.now in
    let some : 0 < c.run_last-steps.result = omega (arith, c.if-steps-gt0.true) in
    last_told c.args.tick c.args.thread c.run_last-steps.result c.new-entry.result c.run_last-steps.new.last.pc c.run_last-steps.new.last.word c.run_last-steps.new.last.a0 first (core c.run_last-steps.new.cpu c.run_last-steps.new.memory) c.args.last.now
    (omega (arith, some)) c.run_last-steps.ensures.moved (omega (arith, c.new-entry.ensures, c.ticks.ensures, c.from.ensures, some))
    (c.run_last-steps.ensures.pc some) (c.run_last-steps.ensures.word some) (c.run_last-steps.ensures.a0 some)
