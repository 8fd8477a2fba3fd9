use Rattle.std.proofs.Common.{◌≡◌, ℕ, ◌-◌, ◌<◌, ◌≤◌, length, sym, ap, subst, ◌∙◌, arith, rules}
use Rattle.ptk_words_model.specs.Windows.{own_ticks}
use Rattle.ptk_system_machine.specs.Accounts.{IsBehind}
use Rattle.ptk_system_machine.specs.Whole.{Whole, gone_on, state_at}
use Rattle.ptk_system_machine.proofs.Coming.{one_done, one_left}
use Rattle.ptk_system_machine.proofs.Ticks.{gone_parts}
use Rattle.ptk_system_machine.proofs.machine.Machine.run.Goals as goal

pub run_partition-requires-clause-behind : goal.run_partition-requires-clause-behind
run_partition-requires-clause-behind c =
    let lt : c.loop-i.i < length c.args.self.now.accounts = omega (arith, c.parts-count.ensures.count) in
    let same : c.loop-i.i ≤ c.loop-i.i = omega arith in
    subst (λ (p : ℕ). IsBehind c.args.tick (state_at p c.loop-i.self)) (sym c.new.ensures)
    (subst (IsBehind c.args.tick) (sym (c.loop-i.invariant.left c.loop-i.i same)) (c.requires.behind c.loop-i.i lt))

pub loop-i-preserved : goal.loop-i-preserved
loop-i-preserved c =
    let gone : c.run_partition.new.self ≡ gone_on (own_ticks c.args.plan.now c.loop-i.i) c.loop-i.i c.args.tick (c.args.to - c.args.tick) c.loop-i.self
    = subst (λ (p : ℕ). c.run_partition.new.self ≡ gone_on (own_ticks c.args.plan.now p) p c.args.tick (c.args.to - c.args.tick) c.loop-i.self) c.new.ensures c.run_partition.ensures in
    let lt : c.loop-i.i < length c.loop-i.self.accounts = omega (arith, c.parts-count.ensures.count, c.loop-i.invariant.parts) in
    record {
      parts = gone_parts _ _ _ _ _ _ gone ∙ c.loop-i.invariant.parts;
      limits = ap (λ (w : Whole). w.kept.limits) gone ∙ c.loop-i.invariant.limits;
      done =
          one_done c.args.plan.now c.loop-i.i c.args.tick (c.args.to - c.args.tick) c.args.self.now c.loop-i.self c.run_partition.new.self c.parts-parts.ensures.whole lt
          c.loop-i.invariant.limits c.loop-i.invariant.done c.loop-i.invariant.left gone;
      left = one_left c.args.plan.now c.loop-i.i c.args.tick (c.args.to - c.args.tick) c.args.self.now c.loop-i.self c.run_partition.new.self c.loop-i.invariant.left gone;
    }

pub returns-clause-each : goal.returns-clause-each
returns-clause-each c = search rules
