use Rattle.std.proofs.Common.{◌∙◌, ◌+◌, ◌-◌, sym, arith}
use Rattle.ptk_gate_moves.specs.Held.{limits_here}
use Rattle.ptk_gate_steps.proofs.StepsApart.{gone_unkept}
use Rattle.ptk_gate_steps.proofs.stretches.run_calls.Goals as goal

pub returns-then-capacity-eq0-clause-gone : goal.returns-then-capacity-eq0-clause-gone
returns-then-capacity-eq0-clause-gone c =
    gone_unkept (limits_here c.args.pools.now) c.args.t c.args.tick c.run_apart.result.steps (c.args.tick + (c.args.room - c.run_apart.result.left)) c.args.pools.now.here c.run_apart.new.pools.here c.args.trace.now
    c.run_apart.ensures.led (omega (arith, c.capacity-capacity.ensures.value, c.capacity-capacity.ensures.within)) (sym c.capacity-capacity.ensures.value ∙ c.if-capacity-eq0.true)
