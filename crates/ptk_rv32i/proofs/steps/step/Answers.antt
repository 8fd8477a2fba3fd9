use Rattle.std.proofs.Common.{◌≡◌, ◌+◌, ◌%◌, ◌≤◌, length, arith, ap, sym, ◌∙◌}
use Rattle.std.specs.Prelude.{Some}
use Rattle.ptk_words.specs.Words.{word_at}
use Rattle.ptk_rv32i_code.specs.Coding.{decoded}
use Rattle.ptk_rv32i.specs.Effects.{after}
use Rattle.ptk_rv32i.proofs.Effects.{step_effect, same_effect}
use Rattle.ptk_rv32i.proofs.steps.step.Goals as goal

pub returns-in-Some : goal.returns-in-Some
returns-in-Some c =
    let cpu = c.args.cpu.now in
    let memory = c.args.memory.now in
    let aligned : cpu.pc % 4 ≡ 0 = omega arith in
    let inside : cpu.pc + 4 ≤ length memory = omega arith in
    let decodes : decoded (word_at memory cpu.pc) ≡ Some c.in-Some.instr =
    ap decoded (sym (c.read_word.ensures ∙ ap (word_at memory) c.pc-pc.ensures)) ∙ sym c.decode.ensures.decoded ∙ c.in-Some.is in
    c.execute.ensures ∙ ap (after cpu memory) (sym (step_effect cpu memory c.in-Some.instr aligned inside decodes))

pub returns-in-None : goal.returns-in-None
returns-in-None c = grind (arith, same_effect)
