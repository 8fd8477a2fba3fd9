use Rattle.std.proofs.Common.{◌∙◌, sym}
use Rattle.ptk_gate_threads.proofs.ExpiryLoop.{expiring_more, expiring_end}
use Rattle.ptk_gate_threads.proofs.expiries.expire_due.Goals as goal

pub due-preserved : goal.due-preserved
due-preserved c = (expiring_more c.args.tick c.args.pools.now c.due.pools c.expire_next.new.pools c.due.invariant (sym c.expire_next.ensures.told ∙ c.due-test.true) c.expire_next.ensures.moved).0

pub returns : goal.returns
returns c = expiring_end c.args.tick c.args.pools.now c.due.pools c.expire_next.new.pools c.due.invariant (sym c.expire_next.ensures.told ∙ c.due-test.false) c.expire_next.ensures.moved

pub due-smaller : goal.due-smaller
due-smaller c = (expiring_more c.args.tick c.args.pools.now c.due.pools c.expire_next.new.pools c.due.invariant (sym c.expire_next.ensures.told ∙ c.due-test.true) c.expire_next.ensures.moved).1
