use Rattle.std.proofs.Common.{arith}
use Rattle.ptk_clock.proofs.Rooms.{deadlines_none}
use Rattle.ptk_clock.proofs.queue.Queue.new.Goals as goal

pub invariant_of-result : goal.invariant_of-result
invariant_of-result c = (rw c.in_ok-pairs.ensures.items (deadlines_none _), omega (arith, c.in_ok-pairs.ensures.exact))
