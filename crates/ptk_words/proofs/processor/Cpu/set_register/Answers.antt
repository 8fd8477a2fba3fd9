use Rattle.std.proofs.Common.{rules}
use Rattle.ptk_words.proofs.processor.Cpu.set_register.Goals as goal

pub invariant_of-self : goal.invariant_of-self
invariant_of-self c = search rules
