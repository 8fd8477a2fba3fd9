use Rattle.std.proofs.Common.{◌≡◌, ◌+◌, ◌<◌, ◌≤◌, Some, length, get_or, subst, sym, ap, ◌∙◌, arith}
use Rattle.ptk_words_model.specs.Windows.{own_ticks}
use Rattle.ptk_kernel.specs.Kept.{limits_at, part_at}
use Rattle.ptk_kernel.specs.Rows.{IsStillTo}
use Rattle.ptk_system_machine.specs.Accounts.{KeptAccount, kept_account_of}
use Rattle.ptk_system_machine.specs.Turns.{IsInWindow, IsPlainAt}
use Rattle.ptk_system_machine.specs.Whole.{Whole, IsWhole, no_account}
use Rattle.ptk_system_machine.proofs.LastCalls.{call_row}
use Rattle.ptk_system_machine.proofs.Coming.{at_coming, begins_from}
use Rattle.ptk_system_machine.proofs.CountedRows.{counted_up, rows_from, rows_whole, with_row_of}
use Rattle.ptk_system_machine.proofs.Decisions.{own_later}
use Rattle.ptk_system_machine.proofs.Progress.{plain_on}
use Rattle.ptk_system_machine.proofs.States.{account_put, account_read}
use Rattle.ptk_system_machine.proofs.StillQuiet.{still_later}
use Rattle.ptk_system_machine.proofs.machine.Machine.run_within.Goals.{else-reached-via-then-reached+else-ticks, else-reached-via-else-reached}
use Rattle.ptk_system_machine.proofs.machine.Machine.run_within.Goals as goal

pub invariant_of-self : goal.invariant_of-self
invariant_of-self c =
    let lt : c.args.p < length c.self.inside.accounts.items = subst (λ (w : Whole). c.args.p < length w.accounts) (sym c.self.view_is) c.requires.partition in
    let read : kept_account_of c.account.inside ≡ get_or c.self.inside.accounts.items c.args.p no_account =
    c.account.view_is ∙ account_read c.args.p c.index.result c.self.inside.accounts.items c.index_mut-account.result.now c.index_mut-account.ensures.value c.index.ensures lt in
    rows_whole c.args.p c.index.result c.args.turn.start c.run_quiet-reached.result.steps c.run_quiet-reached.result.tick c.args.quiet.now.thread _ c.self.inside.tables c.run_quiet-reached.new.tables c.self.inside.accounts.items c.run_quiet-reached.new.trace
    (kept_account_of c.account.inside) c.count_row.new.self c.self.invariant c.index.ensures read c.run_quiet-reached.ensures.moved c.run_quiet-reached.ensures.gone c.count_row.ensures

pub returns-then-ticks-clause-coming : goal.returns-then-ticks-clause-coming
returns-then-ticks-clause-coming c =
    let lt : c.args.p < length c.self.inside.accounts.items = subst (λ (w : Whole). c.args.p < length w.accounts) (sym c.self.view_is) c.requires.partition in
    let put = account_put c.args.p c.index.result c.self.inside.accounts.items c.count_row.new.self c.index.ensures lt in
    let from : c.args.turn.start ≤ c.run_quiet-reached.result.tick = omega (arith, c.run_quiet-reached.ensures.from) in
    let sooner : c.run_quiet-reached.result.tick < c.args.quiet.now.stop = omega (arith, c.if-ticks.true) in
    let window : IsInWindow (own_ticks c.args.plan.now c.args.p) c.args.turn.start c.args.turn.end = c.requires.coming.window (omega (arith, c.requires.order, c.requires.within)) in
    record {
      within = omega (arith, sooner, c.requires.within);
      due = λ less. ap (λ (a : KeptAccount). a.account.next) put ∙ ap (λ (a : KeptAccount). a.account.next) c.count_row.ensures;
      window = λ less. record {
        before = omega (arith, sooner, c.requires.end);
        own = record { end = λ k le below. window.own.end k (omega (arith, from, le)) below; next = λ k le below. window.own.next k (omega (arith, from, le)) below };
        ends = λ k le below. window.ends k (omega (arith, from, le)) below;
        near = omega (arith, from, window.near);
      };
    }

pub returns-then-ticks-clause-gone : goal.returns-then-ticks-clause-gone
returns-then-ticks-clause-gone c =
    let window : IsInWindow (own_ticks c.args.plan.now c.args.p) c.args.turn.start c.args.turn.end = c.requires.coming.window (omega (arith, c.requires.order, c.requires.within)) in
    let found : Some c.run_quiet-reached.result.tick ≡ (own_ticks c.args.plan.now c.args.p).next_of c.run_quiet-reached.result.tick
    = sym (window.own.next c.run_quiet-reached.result.tick (omega (arith, c.run_quiet-reached.ensures.from)) (omega (arith, c.if-ticks.true, c.requires.end))) in
    (rows_from c.args.plan.now c.args.p c.index.result c.args.quiet.now.stop c.args.to c.run_quiet-reached.result.steps c.run_quiet-reached.result.tick c.args.quiet.now.thread c.args.turn _ c.self.inside.tables c.run_quiet-reached.new.tables c.self.inside.accounts.items c.run_quiet-reached.new.trace
    c.index_mut-account.result.now (kept_account_of c.account.inside) c.count_row.new.self c.args.self.now c.is_plan.ensures c.self.view_is c.self.invariant c.requires.partition c.requires.coming c.requires.order c.requires.within
    (omega (arith, c.run_quiet-reached.ensures.within, c.requires.end)) c.requires.quiet (c.run_quiet-reached.ensures.still c.args.quiet.now.stop (omega arith)) found c.run_quiet-reached.ensures.moved c.index.ensures c.account.view_is c.index_mut-account.ensures.value
    c.run_quiet-reached.ensures.none c.run_quiet-reached.ensures.gone c.count_row.ensures).0

pub returns-then-ticks-clause-steady : goal.returns-then-ticks-clause-steady
returns-then-ticks-clause-steady c =
    let window : IsInWindow (own_ticks c.args.plan.now c.args.p) c.args.turn.start c.args.turn.end = c.requires.coming.window (omega (arith, c.requires.order, c.requires.within)) in
    let found : Some c.run_quiet-reached.result.tick ≡ (own_ticks c.args.plan.now c.args.p).next_of c.run_quiet-reached.result.tick
    = sym (window.own.next c.run_quiet-reached.result.tick (omega (arith, c.run_quiet-reached.ensures.from)) (omega (arith, c.if-ticks.true, c.requires.end))) in
    (rows_from c.args.plan.now c.args.p c.index.result c.args.quiet.now.stop c.args.to c.run_quiet-reached.result.steps c.run_quiet-reached.result.tick c.args.quiet.now.thread c.args.turn _ c.self.inside.tables c.run_quiet-reached.new.tables c.self.inside.accounts.items c.run_quiet-reached.new.trace
    c.index_mut-account.result.now (kept_account_of c.account.inside) c.count_row.new.self c.args.self.now c.is_plan.ensures c.self.view_is c.self.invariant c.requires.partition c.requires.coming c.requires.order c.requires.within
    (omega (arith, c.run_quiet-reached.ensures.within, c.requires.end)) c.requires.quiet (c.run_quiet-reached.ensures.still c.args.quiet.now.stop (omega arith)) found c.run_quiet-reached.ensures.moved c.index.ensures c.account.view_is c.index_mut-account.ensures.value
    c.run_quiet-reached.ensures.none c.run_quiet-reached.ensures.gone c.count_row.ensures).1

pub returns-then-ticks-clause-last : goal.returns-then-ticks-clause-last
returns-then-ticks-clause-last c = λ sooner.
    call_row c.args.plan.now c.args.p c.args.to c.run_quiet-reached.result.steps c.run_quiet-reached.result.tick c.run_quiet-reached.result.tick c.args.quiet.now.thread c.args.turn c.self.inside.tables c.self.inside.accounts.items
    (part_at c.args.p c.run_quiet-reached.new.tables) _ c.run_quiet-reached.new.trace c.args.self.now c.is_plan.ensures c.self.view_is c.requires.coming (omega (arith, c.requires.order, c.requires.within))
    (omega (arith, c.run_quiet-reached.ensures.within, c.requires.end)) (omega arith) (λ k e. own_later c.args.plan.now c.args.p c.is_plan.ensures c.run_quiet-reached.result.tick k e)
    c.run_quiet-reached.ensures.gone (c.run_quiet-reached.ensures.last sooner)

pub returns-clause-from : goal.returns-clause-from
returns-clause-from c =
    let next = c.next.ensures ∙ ap (λ (a : KeptAccount). a.account.next) c.count_row-2.ensures in
    let later : c.run_quiet-reached.result.tick ≤ c.coming.result.start =
    begins_from c.run_quiet-reached.result.tick c.run_quiet-reached.result.tick c.args.to _ c.coming.result (omega arith) (omega (arith, c.run_quiet-reached.ensures.within, c.requires.within)) c.turn_on.ensures.from (λ less. sym next ∙ c.coming.ensures.due less) in
    omega (arith, later, c.run_quiet-reached.ensures.from)

pub returns-clause-gone : goal.returns-clause-gone
returns-clause-gone c =
    let lt : c.args.p < length c.self.inside.accounts.items = subst (λ (w : Whole). c.args.p < length w.accounts) (sym c.self.view_is) c.requires.partition in
    let next = c.next.ensures ∙ ap (λ (a : KeptAccount). a.account.next) c.count_row-2.ensures in
    let put = account_put c.args.p c.index.result c.self.inside.accounts.items c.count_row-2.new.self c.index.ensures lt in
    let later : c.run_quiet-reached.result.tick ≤ c.coming.result.start =
    begins_from c.run_quiet-reached.result.tick c.run_quiet-reached.result.tick c.args.to _ c.coming.result (omega arith) (omega (arith, c.run_quiet-reached.ensures.within, c.requires.within)) c.turn_on.ensures.from (λ less. sym next ∙ c.coming.ensures.due less) in
    let row : c.count_row-2.new.self ≡ with_row_of c.turn_on.result.0 c.run_quiet-reached.result.steps c.run_quiet-reached.new.trace (kept_account_of c.account.inside) =
    let Q : KeptAccount → Type 0 = λ (a : KeptAccount). c.count_row-2.new.self ≡ record { account = record { next = c.turn_on.result.0; steps = a.account.steps + c.run_quiet-reached.result.steps; lost = a.account.lost; trace = a.account.trace }; capacity = a.capacity } in
    elim c.else-reached.branch [ else-reached-via-then-reached+else-ticks w ↦ subst Q w.account-is c.count_row-2.ensures | else-reached-via-else-reached w ↦ subst Q w.account-is c.count_row-2.ensures ] in
    (counted_up (own_ticks c.args.plan.now c.args.p) c.args.p c.args.turn.start c.run_quiet-reached.result.tick c.coming.result.start c.args.self.now _
    (subst (λ (w : Whole). IsWhole w.kept w.accounts) c.self.view_is c.self.invariant) c.requires.partition (omega (arith, c.run_quiet-reached.ensures.from)) later
    (λ k at. c.coming.ensures.before k (c.next.ensures ∙ (sym (ap (λ (a : KeptAccount). a.account.next) put) ∙ at)))
    (rows_from c.args.plan.now c.args.p c.index.result c.args.quiet.now.stop c.args.to c.run_quiet-reached.result.steps c.run_quiet-reached.result.tick c.args.quiet.now.thread c.args.turn _ c.self.inside.tables c.run_quiet-reached.new.tables c.self.inside.accounts.items c.run_quiet-reached.new.trace
    c.index_mut-account.result.now (kept_account_of c.account.inside) c.count_row-2.new.self c.args.self.now c.is_plan.ensures c.self.view_is c.self.invariant c.requires.partition c.requires.coming c.requires.order c.requires.within
    (omega (arith, c.run_quiet-reached.ensures.within, c.requires.end)) c.requires.quiet (c.run_quiet-reached.ensures.still c.args.quiet.now.stop (omega arith)) c.turn_on.ensures.next c.run_quiet-reached.ensures.moved c.index.ensures c.account.view_is c.index_mut-account.ensures.value
    c.run_quiet-reached.ensures.none c.run_quiet-reached.ensures.gone row)).0

pub returns-clause-still : goal.returns-clause-still
returns-clause-still c = λ stop beyond still.
    let next = c.next.ensures ∙ ap (λ (a : KeptAccount). a.account.next) c.count_row-2.ensures in
    let later : c.run_quiet-reached.result.tick ≤ c.coming.result.start =
    begins_from c.run_quiet-reached.result.tick c.run_quiet-reached.result.tick c.args.to _ c.coming.result (omega arith) (omega (arith, c.run_quiet-reached.ensures.within, c.requires.within)) c.turn_on.ensures.from (λ less. sym next ∙ c.coming.ensures.due less) in
    still_later c.args.p c.run_quiet-reached.result.tick c.coming.result.start stop c.args.quiet.now.thread c.run_quiet-reached.new.tables later
    (c.run_quiet-reached.ensures.still stop beyond (subst (λ (w : Whole). IsStillTo c.args.p c.args.turn.start stop c.args.quiet.now.thread w.kept) (sym c.self.view_is) still))

pub returns-clause-walk : goal.returns-clause-walk
returns-clause-walk c =
    let next = c.next.ensures ∙ ap (λ (a : KeptAccount). a.account.next) c.count_row-2.ensures in
    at_coming c.args.plan.now c.args.p c.args.to c.turn_on.result.1 c.turn_on.result.0 c.turn_on.new.walk c.coming.result c.turn_on.ensures.walk (λ less. sym next ∙ c.coming.ensures.due less) c.coming.ensures.end

pub returns-clause-plain : goal.returns-clause-plain
returns-clause-plain c = λ at.
    let next = c.next.ensures ∙ ap (λ (a : KeptAccount). a.account.next) c.count_row-2.ensures in
    let later : c.run_quiet-reached.result.tick ≤ c.coming.result.start =
    begins_from c.run_quiet-reached.result.tick c.run_quiet-reached.result.tick c.args.to _ c.coming.result (omega arith) (omega (arith, c.run_quiet-reached.ensures.within, c.requires.within)) c.turn_on.ensures.from (λ less. sym next ∙ c.coming.ensures.due less) in
    let plain : IsPlainAt (limits_at c.args.p c.self.inside.tables) c.args.turn.start (part_at c.args.p c.self.inside.tables) =
    subst (λ (w : Whole). IsPlainAt (limits_at c.args.p w.kept) c.args.turn.start (part_at c.args.p w.kept)) (sym c.self.view_is) at in
    let still : IsStillTo c.args.p c.args.turn.start c.args.quiet.now.stop c.args.quiet.now.thread c.self.inside.tables =
    subst (λ (w : Whole). IsStillTo c.args.p c.args.turn.start c.args.quiet.now.stop c.args.quiet.now.thread w.kept) (sym c.self.view_is) c.requires.quiet in
    let some : c.args.turn.start < c.run_quiet-reached.result.tick =
    plain_on c.args.p c.args.turn.start c.args.quiet.now.stop c.args.until c.run_quiet-reached.result.steps c.run_quiet-reached.result.tick c.args.quiet.now.thread c.self.inside.tables c.run_quiet-reached.new.tables _ plain still.1.running
    c.run_quiet-reached.ensures.from c.run_quiet-reached.ensures.none c.run_quiet-reached.ensures.ended c.requires.order in
    omega (arith, later, some)

pub returns-clause-steady : goal.returns-clause-steady
returns-clause-steady c =
    let lt : c.args.p < length c.self.inside.accounts.items = subst (λ (w : Whole). c.args.p < length w.accounts) (sym c.self.view_is) c.requires.partition in
    let next = c.next.ensures ∙ ap (λ (a : KeptAccount). a.account.next) c.count_row-2.ensures in
    let put = account_put c.args.p c.index.result c.self.inside.accounts.items c.count_row-2.new.self c.index.ensures lt in
    let later : c.run_quiet-reached.result.tick ≤ c.coming.result.start =
    begins_from c.run_quiet-reached.result.tick c.run_quiet-reached.result.tick c.args.to _ c.coming.result (omega arith) (omega (arith, c.run_quiet-reached.ensures.within, c.requires.within)) c.turn_on.ensures.from (λ less. sym next ∙ c.coming.ensures.due less) in
    let row : c.count_row-2.new.self ≡ with_row_of c.turn_on.result.0 c.run_quiet-reached.result.steps c.run_quiet-reached.new.trace (kept_account_of c.account.inside) =
    let Q : KeptAccount → Type 0 = λ (a : KeptAccount). c.count_row-2.new.self ≡ record { account = record { next = c.turn_on.result.0; steps = a.account.steps + c.run_quiet-reached.result.steps; lost = a.account.lost; trace = a.account.trace }; capacity = a.capacity } in
    elim c.else-reached.branch [ else-reached-via-then-reached+else-ticks w ↦ subst Q w.account-is c.count_row-2.ensures | else-reached-via-else-reached w ↦ subst Q w.account-is c.count_row-2.ensures ] in
    (counted_up (own_ticks c.args.plan.now c.args.p) c.args.p c.args.turn.start c.run_quiet-reached.result.tick c.coming.result.start c.args.self.now _
    (subst (λ (w : Whole). IsWhole w.kept w.accounts) c.self.view_is c.self.invariant) c.requires.partition (omega (arith, c.run_quiet-reached.ensures.from)) later
    (λ k at. c.coming.ensures.before k (c.next.ensures ∙ (sym (ap (λ (a : KeptAccount). a.account.next) put) ∙ at)))
    (rows_from c.args.plan.now c.args.p c.index.result c.args.quiet.now.stop c.args.to c.run_quiet-reached.result.steps c.run_quiet-reached.result.tick c.args.quiet.now.thread c.args.turn _ c.self.inside.tables c.run_quiet-reached.new.tables c.self.inside.accounts.items c.run_quiet-reached.new.trace
    c.index_mut-account.result.now (kept_account_of c.account.inside) c.count_row-2.new.self c.args.self.now c.is_plan.ensures c.self.view_is c.self.invariant c.requires.partition c.requires.coming c.requires.order c.requires.within
    (omega (arith, c.run_quiet-reached.ensures.within, c.requires.end)) c.requires.quiet (c.run_quiet-reached.ensures.still c.args.quiet.now.stop (omega arith)) c.turn_on.ensures.next c.run_quiet-reached.ensures.moved c.index.ensures c.account.view_is c.index_mut-account.ensures.value
    c.run_quiet-reached.ensures.none c.run_quiet-reached.ensures.gone row)).1

pub returns-clause-last : goal.returns-clause-last
returns-clause-last c = λ sooner.
    let next = c.next.ensures ∙ ap (λ (a : KeptAccount). a.account.next) c.count_row-2.ensures in
    let later : c.run_quiet-reached.result.tick ≤ c.coming.result.start =
    begins_from c.run_quiet-reached.result.tick c.run_quiet-reached.result.tick c.args.to _ c.coming.result (omega arith) (omega (arith, c.run_quiet-reached.ensures.within, c.requires.within)) c.turn_on.ensures.from (λ less. sym next ∙ c.coming.ensures.due less) in
    call_row c.args.plan.now c.args.p c.args.to c.run_quiet-reached.result.steps c.run_quiet-reached.result.tick c.coming.result.start c.args.quiet.now.thread c.args.turn c.self.inside.tables c.self.inside.accounts.items
    (part_at c.args.p c.run_quiet-reached.new.tables) _ c.run_quiet-reached.new.trace c.args.self.now c.is_plan.ensures c.self.view_is c.requires.coming (omega (arith, c.requires.order, c.requires.within))
    (omega (arith, c.run_quiet-reached.ensures.within, c.requires.end)) later (λ k e. c.coming.ensures.before k (next ∙ (c.turn_on.ensures.next ∙ e)))
    c.run_quiet-reached.ensures.gone (c.run_quiet-reached.ensures.last sooner)

pub run_quiet-reached-requires-clause-near : goal.run_quiet-reached-requires-clause-near
run_quiet-reached-requires-clause-near c =
    let window : IsInWindow (own_ticks c.args.plan.now c.args.p) c.args.turn.start c.args.turn.end = c.requires.coming.window (omega (arith, c.requires.order, c.requires.within)) in
    omega (arith, window.near, c.requires.end)

pub returns-clause-call : goal.returns-clause-call
returns-clause-call c = c.run_quiet-reached.ensures.call
