use Rattle.std.proofs.Common.{rules, ◌^◌, ◌<◌}
use Rattle.ptk_kernel.proofs.Turns.{instruction_made}
use Rattle.ptk_kernel.proofs.steps.instruct.Goals as goal

pub returns : goal.returns
returns c = λ r tick runs.
    let word : c.args.next.word < 2 ^ 32 = search rules in
    instruction_made c.args.p tick c.args.next c.registers-cpu.result r c.args.tables.now c.instruct.new.self c.requires.next c.requires.instruction word c.registers-cpu.ensures runs c.instruct.ensures
