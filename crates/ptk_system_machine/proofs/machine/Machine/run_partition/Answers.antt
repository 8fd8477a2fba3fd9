use Rattle.std.proofs.Common.{◌≡◌, ℕ, ◌-◌, ◌<◌, ◌≤◌, sym, ap, subst, ◌∙◌, arith}
use Rattle.ptk_words_model.specs.Windows.{own_ticks}
use Rattle.ptk_system_machine.specs.Turns.{IsComing}
use Rattle.ptk_system_machine.specs.Whole.{Whole, account_at, gone_on, put_state}
use Rattle.ptk_system_machine.proofs.Coming.{at_none}
use Rattle.ptk_system_machine.proofs.States.{put_state-same}
use Rattle.ptk_system_machine.proofs.Ticks.{gone_behind, gone_further}
use Rattle.ptk_system_machine.proofs.machine.Machine.run_partition.Goals as goal

pub loop-to-init : goal.loop-to-init
loop-to-init c =
    let up = c.first_turn-now.ensures.first in
    record {
      from = up.from;
      coming = subst (λ (w : Whole). IsComing (own_ticks c.args.plan.now c.args.p) c.args.to (account_at c.args.p w).account.next c.first_turn-now.result) (sym c.first_turn-now.ensures.same) up.coming;
      gone = c.first_turn-now.ensures.same ∙ (sym (put_state-same c.args.p c.args.self.now) ∙ ap (λ s. put_state c.args.p s c.args.self.now) up.gone);
      walk = λ within. at_none c.args.plan.now c.args.p c.first_turn-now.result.end c.walk-walk.result c.walk-walk.ensures;
    }

pub go_on-now-requires-clause-behind : goal.go_on-now-requires-clause-behind
go_on-now-requires-clause-behind c =
    gone_behind c.args.plan.now c.args.p c.args.tick c.loop-to.now.start c.args.self.now c.loop-to.self c.is_plan.ensures c.requires.windows.frame c.parts-parts.ensures.whole c.requires.partition
    c.loop-to.invariant.from c.loop-to.invariant.gone c.requires.behind

pub loop-to-preserved : goal.loop-to-preserved
loop-to-preserved c =
    let on : c.loop-to.now.start < c.go_on-now.result.start = c.go_on-now.ensures.on in
    let from : c.args.tick ≤ c.loop-to.now.start = c.loop-to.invariant.from in
    record {
      from = omega arith;
      coming = c.go_on-now.ensures.coming;
      gone =
          gone_further (own_ticks c.args.plan.now c.args.p) c.args.p c.args.tick c.loop-to.now.start c.go_on-now.result.start c.args.self.now c.loop-to.self c.go_on-now.new.self c.parts-parts.ensures.whole c.requires.partition
          from (omega arith) c.loop-to.invariant.gone c.go_on-now.ensures.gone;
      walk = c.go_on-now.ensures.walk;
    }

pub returns : goal.returns
returns c =
    let within : c.loop-to.now.start ≤ c.args.to = c.loop-to.invariant.coming.within in
    let last : c.loop-to.now.start ≡ c.args.to = omega arith in
    c.keep_near.ensures ∙ (c.loop-to.invariant.gone ∙ ap (λ (k : ℕ). gone_on (own_ticks c.args.plan.now c.args.p) c.args.p c.args.tick (k - c.args.tick) c.args.self.now) last)
