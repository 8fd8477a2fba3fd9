use Rattle.std.proofs.Common.{◌≡◌, Some, sym, ap, ◌∙◌, arith}
use Rattle.ptk_window.specs.declared.near.Turn.{Turn}
use Rattle.ptk_system_machine.specs.Accounts.{KeptAccount}
use Rattle.ptk_system_machine.proofs.Coming.{never_found}
use Rattle.ptk_system_machine.proofs.Ticks.{in_window}
use Rattle.ptk_system_machine.proofs.machine.Machine.due_turn.Goals as goal

pub returns-in_default-turn_from-clause-turn : goal.returns-in_default-turn_from-clause-turn
returns-in_default-turn_from-clause-turn c = λ k from below at.
    let next : Some c.in-Some.next ≡ Some k = sym c.in-Some.is ∙ (c.next.ensures ∙ (ap (λ (a : KeptAccount). a.account.next) c.account.ensures.value ∙ at)) in
    let one : c.in-Some.next ≡ k = cc in
    never_found c.args.plan.now c.args.p c.in-Some.next k c.turn_from.result c.is_plan.ensures c.turn_from.ensures.turn (λ turn is. cc (is, c.in_default-turn_from.is)) one

pub returns-then-ticks-3-clause-turn : goal.returns-then-ticks-3-clause-turn
returns-then-ticks-3-clause-turn c = λ k from below at.
    let next : Some c.in-Some.next ≡ Some k = sym c.in-Some.is ∙ (c.next.ensures ∙ (ap (λ (a : KeptAccount). a.account.next) c.account.ensures.value ∙ at)) in
    let one : c.in-Some.next ≡ k = cc in
    never_found c.args.plan.now c.args.p c.in-Some.next k c.turn_from.result c.is_plan.ensures c.turn_from.ensures.turn
    (λ turn is start.
    let same : Some turn ≡ Some c.in-Some-turn_from.turn = sym is ∙ c.in-Some-turn_from.is in
    let here : turn ≡ c.in-Some-turn_from.turn = cc in
    let at : turn.start ≡ c.in-Some-turn_from.turn.start = ap (λ (t : Turn). t.start) here in
    omega (arith, c.if-ticks-3.true, at, start)) one

pub returns-clause-turn : goal.returns-clause-turn
returns-clause-turn c =
    let at : c.in-Some-turn_from.turn.start ≡ c.in-Some.next = omega arith in (
      omega arith,
      omega arith,
      sym (ap (λ (a : KeptAccount). a.account.next) c.account.ensures.value) ∙ (sym c.next.ensures ∙ (c.in-Some.is ∙ ap Some (sym at))),
      in_window c.args.plan.now c.args.p c.in-Some-turn_from.turn.start c.in-Some-turn_from.turn.end c.is_plan.ensures c.requires.frame c.in-Some-turn_from.ensures.turn.1,
    )
