use Rattle.std.proofs.Common.{◌∙◌, sym}
use Rattle.ptk_gate_threads.proofs.ArrivalLoop.{arriving_more, arriving_end}
use Rattle.ptk_gate_threads.proofs.arrivals.arrive_due.Goals as goal

pub due-preserved : goal.due-preserved
due-preserved c = (arriving_more c.args.tick c.args.pools.now c.due.pools c.arrive_next.new.pools c.due.invariant (sym c.arrive_next.ensures.told ∙ c.due-test.true) c.arrive_next.ensures.moved).0

pub returns : goal.returns
returns c = arriving_end c.args.tick c.args.pools.now c.due.pools c.arrive_next.new.pools c.due.invariant (sym c.arrive_next.ensures.told ∙ c.due-test.false) c.arrive_next.ensures.moved
