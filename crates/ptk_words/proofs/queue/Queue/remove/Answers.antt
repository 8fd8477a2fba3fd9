use Rattle.std.proofs.Common.{arith}
use Rattle.ptk_words.proofs.QueueLists.{line_without}
use Rattle.ptk_words.proofs.queue.Queue.remove.Goals as goal

pub invariant_of-self : goal.invariant_of-self
invariant_of-self c = (
  rw c.take_out.ensures.items (line_without _ _ c.self.invariant.0),
  omega (arith, c.self.invariant.1, c.take_out.ensures.capacity),
)
