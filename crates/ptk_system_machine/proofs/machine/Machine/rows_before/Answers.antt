use Rattle.std.proofs.Common.{◌-◌, ◌<◌, ◌≤◌, refl, sym, arith}
use Rattle.std.proofs.lemmas.Bool.{false≢true}
use Rattle.ptk_words.proofs.Options.{closer}
use Rattle.ptk_words_model.specs.Windows.{own_ticks}
use Rattle.ptk_kernel.specs.Kept.{limits_at}
use Rattle.ptk_system_machine.specs.Steady.{states_from}
use Rattle.ptk_system_machine.specs.Whole.{state_at}
use Rattle.ptk_system_machine.proofs.LastCalls.{call_first, call_start}
use Rattle.ptk_system_machine.proofs.Progress.{plain_later}
use Rattle.ptk_system_machine.proofs.Steady.{steady_gone, steady_start}
use Rattle.ptk_system_machine.proofs.Ticks.{gone_behind, gone_further, gone_start}
use Rattle.ptk_system_machine.proofs.machine.Machine.rows_before.Goals as goal

pub loop-is_going-init : goal.loop-is_going-init
loop-is_going-init c = record {
  from = omega arith;
  coming = c.requires.coming;
  gone = gone_start (own_ticks c.args.plan.now c.args.p) c.args.p c.args.turn.start (c.args.turn.start - c.args.turn.start) c.args.self.now (omega arith);
  steady = steady_start (own_ticks c.args.plan.now c.args.p) (limits_at c.args.p c.args.self.now.kept) c.args.turn.start (state_at c.args.p c.args.self.now);
  first = λ sooner going. (refl, refl);
  last = λ sooner. call_start (states_from (own_ticks c.args.plan.now c.args.p) (limits_at c.args.p c.args.self.now.kept) c.args.turn.start (state_at c.args.p c.args.self.now)) c.args.turn.start;
  plain = λ stopped. absurd (false≢true (sym stopped));
  before = λ going. c.requires.order;
  still = c.requires.quiet;
  walk = λ within. c.requires.walk;
  call = λ known. absurd (false≢true known);
}

pub run_window-is_known-requires-clause-behind : goal.run_window-is_known-requires-clause-behind
run_window-is_known-requires-clause-behind c =
    gone_behind c.args.plan.now c.args.p c.args.turn.start c.loop-is_going.now.start c.args.self.now c.loop-is_going.self c.is_plan.ensures c.requires.windows.frame c.parts-parts.ensures.whole c.requires.partition
    c.loop-is_going.invariant.from c.loop-is_going.invariant.gone c.requires.behind

pub loop-is_going-preserved : goal.loop-is_going-preserved
loop-is_going-preserved c =
    let from : c.args.turn.start ≤ c.loop-is_going.now.start = c.loop-is_going.invariant.from in
    let on : c.loop-is_going.now.start ≤ c.run_window-is_known.result.turn.start = c.run_window-is_known.ensures.from in
    record {
      from = omega (arith, from, on);
      coming = c.run_window-is_known.ensures.coming;
      gone =
          gone_further (own_ticks c.args.plan.now c.args.p) c.args.p c.args.turn.start c.loop-is_going.now.start c.run_window-is_known.result.turn.start c.args.self.now c.loop-is_going.self c.run_window-is_known.new.self c.parts-parts.ensures.whole c.requires.partition
          from on c.loop-is_going.invariant.gone c.run_window-is_known.ensures.gone;
      steady =
          steady_gone (own_ticks c.args.plan.now c.args.p) c.args.p c.args.turn.start c.loop-is_going.now.start c.run_window-is_known.result.turn.start c.args.self.now c.loop-is_going.self c.parts-parts.ensures.whole c.requires.partition
          from on c.loop-is_going.invariant.gone c.loop-is_going.invariant.steady c.run_window-is_known.ensures.steady;
      first = λ sooner e. (let before_until : c.run_window-is_known.result.turn.start < c.args.until = (c.goes_on-is_going.ensures e).1 in absurd (omega (arith, before_until, sooner, from, on)));
      last = λ sooner.
          (let same = c.loop-is_going.invariant.first sooner c.loop-is_going-test.true in
          call_first c.args.plan.now c.args.p c.run_window-is_known.result.turn.start c.args.turn c.loop-is_going.now c.args.self.now c.loop-is_going.self same.0 same.1 (c.run_window-is_known.ensures.last (omega (arith, sooner, from))));
      plain = λ stopped at.
          plain_later (own_ticks c.args.plan.now c.args.p) c.args.p c.args.turn.start c.loop-is_going.now.start c.run_window-is_known.result.turn.start c.args.self.now c.loop-is_going.self from on c.loop-is_going.invariant.gone at c.run_window-is_known.ensures.plain;
      before = λ e. (let before_until : c.run_window-is_known.result.turn.start < c.args.until = (c.goes_on-is_going.ensures e).1 in omega (arith, before_until, c.requires.until));
      still = c.run_window-is_known.ensures.still;
      walk = c.run_window-is_known.ensures.walk;
      call = c.run_window-is_known.ensures.call;
    }

pub run_window-is_known-requires-clause-walk : goal.run_window-is_known-requires-clause-walk
run_window-is_known-requires-clause-walk c = c.loop-is_going.invariant.walk (omega (arith, c.loop-is_going.invariant.before c.loop-is_going-test.true, c.requires.within))

pub loop-is_going-smaller : goal.loop-is_going-smaller
loop-is_going-smaller c =
    closer c.loop-is_going.is_going c.goes_on-is_going.result c.args.quiet.stop c.loop-is_going.now.start c.run_window-is_known.result.turn.start c.loop-is_going-test.true (c.loop-is_going.invariant.before c.loop-is_going-test.true)
    (λ e. c.run_window-is_known.ensures.on (c.goes_on-is_going.ensures e).0)
