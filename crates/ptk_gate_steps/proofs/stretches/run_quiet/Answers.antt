use Rattle.std.proofs.Common.{◌+◌, ◌≤◌, arith}
use Rattle.ptk_gate_moves.specs.Held.{limits_here}
use Rattle.ptk_gate_steps.specs.Decisions.{begun}
use Rattle.ptk_gate_steps.proofs.Decisions.{call_last}
use Rattle.ptk_gate_steps.proofs.StepsInARow.{gone_later, gone_more, held_join, interval_here, quiet_here, well_here}
use Rattle.ptk_gate_steps.proofs.stretches.run_quiet.Goals as goal

pub make_calls-requires : goal.make_calls-requires
make_calls-requires c =
    let later : c.args.tick + c.run_row-row.result.steps ≤ c.run_row-row.result.tick =
    gone_later (limits_here c.args.pools.now) c.args.quiet.thread c.args.tick c.run_row-row.result.steps c.run_row-row.result.tick c.args.pools.now.here c.run_row-row.new.pools.here c.args.trace.now c.run_row-row.new.trace c.run_row-row.ensures.gone in
    record {
      within = c.run_row-row.ensures.within;
      time = c.requires.time;
      near = omega (arith, later, c.requires.near);
      quiet = quiet_here c.args.quiet.thread c.args.tick c.run_row-row.result.steps c.run_row-row.result.tick c.args.quiet.stop c.args.pools.now c.run_row-row.new.pools c.args.trace.now c.run_row-row.new.trace c.run_row-row.ensures.moved c.run_row-row.ensures.gone c.run_row-row.ensures.within c.requires.quiet;
      well = well_here c.args.quiet.thread c.args.tick c.run_row-row.result.steps c.run_row-row.result.tick c.args.pools.now c.run_row-row.new.pools c.args.trace.now c.run_row-row.new.trace c.run_row-row.ensures.moved c.run_row-row.ensures.gone c.requires.well;
      interval = interval_here 1000000 c.args.pools.now c.run_row-row.new.pools c.run_row-row.ensures.moved c.requires.interval;
      counted = omega (arith, later);
      unknown = c.run_row-row.ensures.unknown;
      ended = c.run_row-row.ensures.ended;
    }

pub returns-clause-moved : goal.returns-clause-moved
returns-clause-moved c = held_join c.args.pools.now c.run_row-row.new.pools c.make_calls.new.pools c.run_row-row.ensures.moved c.make_calls.ensures.moved

pub returns-clause-gone : goal.returns-clause-gone
returns-clause-gone c =
    gone_more c.args.quiet.thread c.args.tick c.run_row-row.result.steps c.run_row-row.result.tick c.make_calls.result.steps c.make_calls.result.tick c.args.pools.now c.run_row-row.new.pools c.make_calls.new.pools c.args.trace.now c.run_row-row.new.trace c.make_calls.new.trace
    c.run_row-row.ensures.moved c.run_row-row.ensures.gone c.make_calls.ensures.from c.make_calls.ensures.gone

pub returns-clause-last : goal.returns-clause-last
returns-clause-last c = λ sooner.
    let later : c.args.tick + c.run_row-row.result.steps ≤ c.run_row-row.result.tick =
    gone_later (limits_here c.args.pools.now) c.args.quiet.thread c.args.tick c.run_row-row.result.steps c.run_row-row.result.tick c.args.pools.now.here c.run_row-row.new.pools.here c.args.trace.now c.run_row-row.new.trace c.run_row-row.ensures.gone in
    call_last (limits_here c.args.pools.now) c.run_row-row.result.steps c.make_calls.result.steps (begun c.args.tick c.args.pools.now.here) c.run_row-row.ensures.plain
    (c.make_calls.ensures.one (omega (arith, sooner, later)))

pub returns-clause-ended : goal.returns-clause-ended
returns-clause-ended c = λ before more.
    let later : c.args.tick + c.run_row-row.result.steps ≤ c.run_row-row.result.tick =
    gone_later (limits_here c.args.pools.now) c.args.quiet.thread c.args.tick c.run_row-row.result.steps c.run_row-row.result.tick c.args.pools.now.here c.run_row-row.new.pools.here c.args.trace.now c.run_row-row.new.trace c.run_row-row.ensures.gone in
    c.make_calls.ensures.ended before (λ lt. more (omega (arith, lt, later)))
