use Rattle.std.proofs.Common.{◌≤◌, length, arith}
use Rattle.ptk_gate.specs.Kept.{limits_at, part_at}
use Rattle.ptk_gate.proofs.StepsInARow.{gone_later}
use Rattle.ptk_kernel.proofs.RowsMade.{rows_none, rows_still}
use Rattle.ptk_kernel.proofs.rows.run_quiet.Goals as goal

pub returns-clause-from : goal.returns-clause-from
returns-clause-from c =
    gone_later (limits_at c.args.p c.args.tables.now) c.args.quiet.thread c.args.tick c.run_quiet.result.steps c.run_quiet.result.tick (part_at c.args.p c.args.tables.now) (part_at c.args.p c.run_quiet.new.self) c.args.trace.now c.run_quiet.new.trace c.run_quiet.ensures.gone

pub returns-clause-none : goal.returns-clause-none
returns-clause-none c = λ none.
    let within : length c.args.trace.now.entries ≤ c.args.trace.now.capacity = omega (arith, c.capacity-capacity.ensures.value, c.capacity-capacity.ensures.within) in
    rows_none c.args.p c.args.quiet.thread c.args.tick c.run_quiet.result.steps c.run_quiet.result.tick c.args.tables.now c.run_quiet.new.self c.args.trace.now c.run_quiet.new.trace c.run_quiet.ensures.moved c.run_quiet.ensures.gone within none

pub returns-clause-still : goal.returns-clause-still
returns-clause-still c = λ stop later still.
    rows_still c.args.p c.args.quiet.thread c.args.tick c.run_quiet.result.steps c.run_quiet.result.tick stop c.args.tables.now c.run_quiet.new.self c.args.trace.now c.run_quiet.new.trace c.run_quiet.ensures.moved c.run_quiet.ensures.gone
    (omega (arith, later, c.run_quiet.ensures.within)) still
