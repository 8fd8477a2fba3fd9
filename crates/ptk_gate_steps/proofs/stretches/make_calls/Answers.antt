use Rattle.std.proofs.Common.{◌∙◌, refl, sym, arith}
use Rattle.std.proofs.lemmas.Bool.{false≢true}
use Rattle.ptk_gate_moves.specs.Held.{limits_here}
use Rattle.ptk_gate_steps.proofs.QuietCalls.{call_is, other_is}
use Rattle.ptk_gate_steps.proofs.StepsApart.{quiet_used}
use Rattle.ptk_gate_steps.proofs.StepsInARow.{gone_as, gone_none}
use Rattle.ptk_gate_steps.proofs.stretches.make_calls.Goals as goal

pub next_is-requires : goal.next_is-requires
next_is-requires c = record { in_use = quiet_used (limits_here c.args.pools.now) c.args.now.tick c.args.quiet.now.stop c.args.quiet.now.thread c.args.pools.now.here c.requires.quiet }

pub returns-then-ticks-clause-gone : goal.returns-then-ticks-clause-gone
returns-then-ticks-clause-gone c =
    gone_as (limits_here c.args.pools.now) c.args.quiet.now.thread c.args.now.tick 0 _ c.args.now.tick _ c.args.pools.now.here c.args.pools.now.here c.args.trace.now c.args.trace.now
    (gone_none (limits_here c.args.pools.now) c.args.quiet.now.thread c.args.now.tick c.args.pools.now.here c.args.trace.now (omega (arith, c.capacity-capacity.ensures.value, c.capacity-capacity.ensures.within))) (omega arith) refl

pub returns-in-Call-clause-gone : goal.returns-in-Call-clause-gone
returns-in-Call-clause-gone c =
    gone_as (limits_here c.args.pools.now) c.args.quiet.now.thread c.args.now.tick 0 _ c.args.now.tick _ c.args.pools.now.here c.args.pools.now.here c.args.trace.now c.args.trace.now
    (gone_none (limits_here c.args.pools.now) c.args.quiet.now.thread c.args.now.tick c.args.pools.now.here c.args.trace.now (omega (arith, c.capacity-capacity.ensures.value, c.capacity-capacity.ensures.within))) (omega arith) refl

pub returns-in-Call-clause-ended : goal.returns-in-Call-clause-ended
returns-in-Call-clause-ended c = λ before more. record {
  plain = c.requires.ended before;
  call = λ thread found quiet. absurd (false≢true (sym (call_is c.args.quiet.now.thread thread c.args.pools.now.here (sym (c.next_is.ensures thread found) ∙ c.in-Call.is)).1 ∙ quiet));
}

pub returns-in-Other-clause-gone : goal.returns-in-Other-clause-gone
returns-in-Other-clause-gone c =
    gone_as (limits_here c.args.pools.now) c.args.quiet.now.thread c.args.now.tick 0 _ c.args.now.tick _ c.args.pools.now.here c.args.pools.now.here c.args.trace.now c.args.trace.now
    (gone_none (limits_here c.args.pools.now) c.args.quiet.now.thread c.args.now.tick c.args.pools.now.here c.args.trace.now (omega (arith, c.capacity-capacity.ensures.value, c.capacity-capacity.ensures.within))) (omega arith) refl

pub returns-in-Other-clause-ended : goal.returns-in-Other-clause-ended
returns-in-Other-clause-ended c = λ before more. record {
  plain = c.requires.ended before;
  call = λ thread found quiet. absurd (false≢true (sym (other_is c.args.quiet.now.thread thread c.args.pools.now.here (sym (c.next_is.ensures thread found) ∙ c.in-Other.is)) ∙ quiet));
}
