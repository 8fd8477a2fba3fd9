use Rattle.std.proofs.Common.{rules}
use Rattle.ptk_gate_threads.proofs.ArrivalSteps.{waiters}
use Rattle.ptk_gate_threads.proofs.arrivals.arrive_next.Goals as goal

pub hand_next-requires-clause-in_use : goal.hand_next-requires-clause-in_use
hand_next-requires-clause-in_use c = search (rules, waiters)

pub hand_next-requires-clause-fresh : goal.hand_next-requires-clause-fresh
hand_next-requires-clause-fresh c = search (rules, waiters)

pub hand_next-requires-clause-free : goal.hand_next-requires-clause-free
hand_next-requires-clause-free c = search (rules, waiters)
