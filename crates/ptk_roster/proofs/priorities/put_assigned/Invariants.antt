use Rattle.ptk_threads.specs.Links.{threads_of}
use Rattle.ptk_roster.proofs.Held.{AreAssigned}
use Rattle.ptk_roster.proofs.priorities.put_assigned.Given as goal

abbrev pub invariant-loop-k : goal.invariant-loop-k
invariant-loop-k l = AreAssigned (threads_of l.threads) l.k l.stored
