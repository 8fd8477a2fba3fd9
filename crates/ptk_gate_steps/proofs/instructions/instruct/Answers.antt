use Rattle.ptk_words_model.specs.Instructions.{effect_at}
use Rattle.ptk_gate_steps.proofs.StepEffects.{instruct_moved}
use Rattle.ptk_gate_steps.proofs.instructions.instruct.Goals as goal

pub returns : goal.returns
returns c =
    instruct_moved c.args.t c.pc-pc.result c.args.cpu c.step_memory-outcome.new.cpu c.step_memory-outcome.new.self.here.memory c.step_memory-outcome.result
    (effect_at c.args.cpu c.args.pools.now.here.memory) c.args.pools.now c.step_memory-outcome.new.self c.settle.new.pools
    c.pc-pc.ensures c.step_memory-outcome.ensures.seen c.step_memory-outcome.ensures.moved c.settle.ensures
