use Rattle.std.proofs.Common.{arith}
use Rattle.ptk_words.proofs.QueueLists.{lines}
use Rattle.ptk_words.proofs.queue.Queue.push_head.Goals as goal

pub invariant_of-self : goal.invariant_of-self
invariant_of-self c = grind (arith, lines)

pub returns : goal.returns
returns c = grind (arith, lines)
