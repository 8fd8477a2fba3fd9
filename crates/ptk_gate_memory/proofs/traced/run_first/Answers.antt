use Rattle.std.proofs.Common.{arith}
use Rattle.ptk_words_model.specs.PlainSteps.{core}
use Rattle.ptk_gate_memory.proofs.RowsTraced.{last_told}
use Rattle.ptk_gate_memory.proofs.traced.run_first.Goals as goal

pub returns-then-row-gt0-clause-last : goal.returns-then-row-gt0-clause-last
returns-then-row-gt0-clause-last c =
    let first = core c.args.cpu.now c.args.memory.now in
    last_told c.args.tick c.args.thread c.run_plain-row.result.steps c.new.result c.run_plain-row.result.pc c.run_plain-row.result.word c.register.result first (core c.run_plain-row.new.cpu c.run_plain-row.new.memory) c.args.last.now
    (omega (arith, c.if-row-gt0.true)) c.run_plain-row.ensures.moved (omega (arith, c.new.ensures, c.ticks.ensures, c.from.ensures, c.if-row-gt0.true))
    c.run_plain-row.ensures.pc c.run_plain-row.ensures.word c.register.ensures.value
