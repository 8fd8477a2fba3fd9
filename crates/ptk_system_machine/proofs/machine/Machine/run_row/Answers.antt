use Rattle.std.proofs.Common.{◌≡◌, ◌-◌, ◌<◌, ◌≤◌, sym, subst, arith}
use Rattle.ptk_words_model.specs.Windows.{own_ticks}
use Rattle.ptk_kernel.specs.Kept.{limits_at, part_at}
use Rattle.ptk_system_machine.specs.Accounts.{IsBehind}
use Rattle.ptk_system_machine.specs.Steady.{AreSteady, states_from}
use Rattle.ptk_system_machine.specs.Turns.{IsComing, IsPlainAt}
use Rattle.ptk_system_machine.specs.Whole.{Whole, account_at, gone_on, state_at}
use Rattle.ptk_system_machine.proofs.Behind.{behind_later}
use Rattle.ptk_system_machine.proofs.Coming.{coming_before, row_each}
use Rattle.ptk_system_machine.proofs.First.{still_before}
use Rattle.ptk_system_machine.proofs.Progress.{goes_on}
use Rattle.ptk_system_machine.proofs.Steady.{steady_each, steady_stays}
use Rattle.ptk_system_machine.proofs.machine.Machine.run_row.Goals as goal

pub rows-requires-clause-due : goal.rows-requires-clause-due
rows-requires-clause-due c = (c.in-Some.ensures.first.1.due c.in-Some.ensures.first.0).1

pub rows-requires-clause-coming : goal.rows-requires-clause-coming
rows-requires-clause-coming c =
    let first = c.in-Some.ensures.first.1 in
    let sooner : c.in-Some.first.turn.start < c.in-Some.first.stop = (first.due c.in-Some.ensures.first.0).1 in
    subst (λ (w : Whole). IsComing (own_ticks c.args.plan.now c.in-Some.first.p) c.in-Some.first.stop (account_at c.in-Some.first.p w).account.next c.in-Some.first.turn) (sym c.first_due.ensures.same)
    (coming_before (own_ticks c.args.plan.now c.in-Some.first.p) c.args.to c.in-Some.first.stop _ _ first.within (omega (arith, sooner)) (first.due c.in-Some.ensures.first.0).2.coming)

pub rows-requires-clause-behind : goal.rows-requires-clause-behind
rows-requires-clause-behind c =
    let due = c.in-Some.ensures.first.1.due c.in-Some.ensures.first.0 in
    subst (λ (w : Whole). IsBehind c.in-Some.first.turn.start (state_at c.in-Some.first.p w)) (sym c.first_due.ensures.same)
    (behind_later c.args.tick c.in-Some.first.turn.start (state_at c.in-Some.first.p c.args.self.now) due.2.from (c.requires.behind c.in-Some.first.p due.0))

pub returns-clause-each : goal.returns-clause-each
returns-clause-each c =
    let first = c.in-Some.ensures.first.1 in
    let due = first.due c.in-Some.ensures.first.0 in
    let on : c.in-Some.first.turn.start ≤ c.rows.result.start = c.rows.ensures.from in
    row_each c.args.plan.now c.in-Some.first.p c.args.tick c.in-Some.first.turn.start c.rows.result.start c.args.self.now c.rows.new.self
    c.parts-parts.ensures.whole due.0 (first.still c.in-Some.first.p due.0) due.2.from on
    (λ q below differ. still_before (own_ticks c.args.plan.now q) (limits_at q c.args.self.now.kept) c.args.tick c.in-Some.first.stop c.rows.result.start (state_at q c.args.self.now) c.rows.ensures.coming.within (first.others q below differ))
    (subst (λ (w : Whole). c.rows.new.self ≡ gone_on (own_ticks c.args.plan.now c.in-Some.first.p) c.in-Some.first.p c.in-Some.first.turn.start (c.rows.result.start - c.in-Some.first.turn.start) w) c.first_due.ensures.same c.rows.ensures.gone)

pub returns-clause-on : goal.returns-clause-on
returns-clause-on c = λ before plain.
    let due = c.in-Some.ensures.first.1.due c.in-Some.ensures.first.0 in
    goes_on c.in-Some.first.p c.args.tick c.args.to c.rows.result.start c.in-Some.first.turn c.args.self.now due.2.from due.2.coming.due before (plain c.in-Some.first.p due.0) c.rows.ensures.from
    (subst (λ (w : Whole). IsPlainAt (limits_at c.in-Some.first.p w.kept) c.in-Some.first.turn.start (part_at c.in-Some.first.p w.kept) → c.in-Some.first.turn.start < c.rows.result.start) c.first_due.ensures.same c.rows.ensures.plain)

pub returns-clause-steady : goal.returns-clause-steady
returns-clause-steady c =
    let first = c.in-Some.ensures.first.1 in
    let due = first.due c.in-Some.ensures.first.0 in
    let on : c.in-Some.first.turn.start ≤ c.rows.result.start = c.rows.ensures.from in
    steady_each c.args.plan.now c.in-Some.first.p c.args.tick c.in-Some.first.turn.start c.rows.result.start c.args.self.now due.0 (first.still c.in-Some.first.p due.0) due.2.from on
    (λ q below differ. still_before (own_ticks c.args.plan.now q) (limits_at q c.args.self.now.kept) c.args.tick c.in-Some.first.stop c.rows.result.start (state_at q c.args.self.now) c.rows.ensures.coming.within (first.others q below differ))
    (subst (λ (w : Whole). AreSteady (part_at c.in-Some.first.p w.kept) (states_from (own_ticks c.args.plan.now c.in-Some.first.p) (limits_at c.in-Some.first.p w.kept) c.in-Some.first.turn.start (state_at c.in-Some.first.p w)) c.in-Some.first.turn.start c.rows.result.start) c.first_due.ensures.same c.rows.ensures.steady)

pub returns-in_default-clause-steady : goal.returns-in_default-clause-steady
returns-in_default-clause-steady c = λ q below. steady_stays (own_ticks c.args.plan.now q) q c.args.tick c.args.to c.args.self.now (c.in_default.ensures.first q below)
