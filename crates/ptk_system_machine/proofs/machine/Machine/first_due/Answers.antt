use Rattle.std.proofs.Common.{◌≡◌, ℕ, ◌<◌, ◌≤◌, Some, None, length, refl, ap, subst, ◌∙◌, arith}
use Rattle.std.specs.Prelude.{MatchOption}
use Rattle.ptk_words_model.specs.Windows.{own_ticks}
use Rattle.ptk_window.specs.declared.near.Turn.{Turn}
use Rattle.ptk_system_machine.specs.Turns.{ComesFirst, IsInWindow}
use Rattle.ptk_system_machine.specs.Whole.{Whole, account_at}
use Rattle.ptk_system_machine.proofs.First.{first_more, first_past, first_within, none_first}
use Rattle.ptk_system_machine.proofs.machine.Machine.first_due.Goals as goal

pub loop-i-init : goal.loop-i-init
loop-i-init c = record { same = refl; first = none_first c.args.plan.now c.args.tick c.args.to c.args.self.now c.none_yet-first.result c.none_yet-first.ensures.turn c.none_yet-first.ensures.stop }

pub loop-i-preserved : goal.loop-i-preserved
loop-i-preserved c =
    let at : c.new-p.result ≡ c.loop-i.i = c.new-p.ensures in
    record {
      same = c.due_turn-due.ensures.same ∙ c.loop-i.invariant.same;
      first =
          first_more c.args.plan.now c.args.tick c.args.to c.loop-i.i c.args.self.now c.loop-i.first c.first_of-first.result c.due_turn-due.result c.is_plan.ensures c.loop-i.invariant.first
          (subst (λ (w : Whole). MatchOption c.due_turn-due.result ((k : ℕ) → c.args.tick ≤ k → k < c.args.to → (account_at c.loop-i.i w).account.next ≡ Some k → (own_ticks c.args.plan.now c.loop-i.i).end_at k ≡ None)
          (λ (turn : Turn). (c.args.tick ≤ turn.start) × (turn.start < c.args.to) × ((account_at c.loop-i.i w).account.next ≡ Some turn.start) × IsInWindow (own_ticks c.args.plan.now c.loop-i.i) turn.start turn.end))
          c.loop-i.invariant.same
          (subst (λ (p : ℕ). MatchOption c.due_turn-due.result ((k : ℕ) → c.args.tick ≤ k → k < c.args.to → (account_at p c.loop-i.self).account.next ≡ Some k → (own_ticks c.args.plan.now p).end_at k ≡ None)
          (λ (turn : Turn). (c.args.tick ≤ turn.start) × (turn.start < c.args.to) × ((account_at p c.loop-i.self).account.next ≡ Some turn.start) × IsInWindow (own_ticks c.args.plan.now p) turn.start turn.end))
          at c.due_turn-due.ensures.turn))
          c.first_of-first.ensures.none
          (λ turn is lt. c.first_of-first.ensures.sooner turn is lt ∙ ap (λ (p : ℕ). record { p = p; turn = turn; stop = c.loop-i.first.turn.start }) at)
          c.first_of-first.ensures.later;
    }

pub returns-then-ticks-clause-first : goal.returns-then-ticks-clause-first
returns-then-ticks-clause-first c = λ q below.
    first_past c.args.plan.now c.args.tick c.args.to c.loop-i.i c.args.self.now c.loop-i.first c.loop-i.invariant.first (omega (arith, c.if-ticks.true, c.ticks.ensures, c.ticks-2.ensures)) q
    (omega (arith, below, c.parts-parts.ensures.count, c.loop-i-test.false))

pub returns-clause-first : goal.returns-clause-first
returns-clause-first c =
    let due : c.loop-i.first.turn.start < c.args.to = omega (arith, c.if-ticks.false, c.ticks.ensures, c.ticks-2.ensures) in
    let all : c.loop-i.i ≡ length c.args.self.now.accounts = omega (arith, c.parts-parts.ensures.count, c.loop-i-test.false, c.loop-i.auto.i-end) in (
      due,
      first_within c.args.plan.now c.args.tick c.args.to (length c.args.self.now.accounts) c.new-stop.result c.args.self.now c.loop-i.first
          (subst (λ (n : ℕ). ComesFirst c.args.plan.now c.args.tick c.args.to n c.args.self.now c.loop-i.first) all c.loop-i.invariant.first) due
          (omega (arith, c.new-stop.ensures, c.min.ensures, c.ticks-3.ensures, c.ticks-4.ensures)),
    )
