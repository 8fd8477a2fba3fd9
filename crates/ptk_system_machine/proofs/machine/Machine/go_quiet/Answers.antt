use Rattle.std.proofs.Common.{◌<◌, arith}
use Rattle.ptk_words_model.specs.Windows.{own_ticks}
use Rattle.ptk_system_machine.specs.Whole.{state_at}
use Rattle.ptk_system_machine.proofs.Prepared.{still_ready}
use Rattle.ptk_system_machine.proofs.Ticks.{gone_behind, gone_further}
use Rattle.ptk_system_machine.proofs.machine.Machine.go_quiet.Goals as goal

pub take_call-requires-clause-behind : goal.take_call-requires-clause-behind
take_call-requires-clause-behind c =
    gone_behind c.args.plan.now c.args.p c.args.turn.start c.rows_before-is_call.result.turn.start c.args.self.now c.rows_before-is_call.new.self c.is_plan.ensures c.requires.windows.frame c.parts-parts.ensures.whole c.requires.partition
    c.rows_before-is_call.ensures.from c.rows_before-is_call.ensures.gone c.requires.behind

pub take_turn-requires-clause-behind : goal.take_turn-requires-clause-behind
take_turn-requires-clause-behind c =
    gone_behind c.args.plan.now c.args.p c.args.turn.start c.rows_before-is_call.result.turn.start c.args.self.now c.rows_before-is_call.new.self c.is_plan.ensures c.requires.windows.frame c.parts-parts.ensures.whole c.requires.partition
    c.rows_before-is_call.ensures.from c.rows_before-is_call.ensures.gone c.requires.behind

pub returns-then-is_call-clause-gone : goal.returns-then-is_call-clause-gone
returns-then-is_call-clause-gone c =
    let before : c.rows_before-is_call.result.turn.start < c.args.quiet.stop = omega arith in
    gone_further (own_ticks c.args.plan.now c.args.p) c.args.p c.args.turn.start c.rows_before-is_call.result.turn.start c.take_call.result.start c.args.self.now c.rows_before-is_call.new.self c.take_call.new.self c.parts-parts.ensures.whole c.requires.partition
    c.rows_before-is_call.ensures.from (omega (arith, c.take_call.ensures.on)) c.rows_before-is_call.ensures.gone
    (c.take_call.ensures.gone (state_at c.args.p c.rows_before-is_call.new.self)
    (still_ready c.args.p c.rows_before-is_call.result.turn.start c.args.quiet.stop c.args.quiet.thread c.rows_before-is_call.new.self c.rows_before-is_call.ensures.still before))

pub returns-else-is_call-clause-gone : goal.returns-else-is_call-clause-gone
returns-else-is_call-clause-gone c =
    let before : c.rows_before-is_call.result.turn.start < c.args.quiet.stop = omega arith in
    gone_further (own_ticks c.args.plan.now c.args.p) c.args.p c.args.turn.start c.rows_before-is_call.result.turn.start c.take_turn.result.start c.args.self.now c.rows_before-is_call.new.self c.take_turn.new.self c.parts-parts.ensures.whole c.requires.partition
    c.rows_before-is_call.ensures.from (omega (arith, c.take_turn.ensures.on)) c.rows_before-is_call.ensures.gone
    (c.take_turn.ensures.gone (state_at c.args.p c.rows_before-is_call.new.self)
    (still_ready c.args.p c.rows_before-is_call.result.turn.start c.args.quiet.stop c.args.quiet.thread c.rows_before-is_call.new.self c.rows_before-is_call.ensures.still before))
