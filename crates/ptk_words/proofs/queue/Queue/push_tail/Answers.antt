use Rattle.std.proofs.Common.{◌≡◌, false, arith}
use Rattle.ptk_words.specs.Pools.{is_in}
use Rattle.ptk_words.proofs.QueueLists.{line_push}
use Rattle.ptk_words.proofs.queue.Queue.push_tail.Goals as goal

pub invariant_of-self : goal.invariant_of-self
invariant_of-self c =
    let out : is_in c.args.k c.self.inside.threads.items ≡ false = rw (c.self.view_is) c.requires in (
      rw c.push_reserved.ensures.items (line_push _ _ (omega arith) (omega arith) out c.self.invariant.0),
      omega (arith, c.self.invariant.1, c.push_reserved.ensures.capacity),
    )
