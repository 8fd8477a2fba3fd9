use Rattle.std.proofs.Common.{◌≡◌, ℕ, ◌+◌, ◌-◌, ◌<◌, ◌≤◌, length, get_or, Some, refl, subst, sym, ap, ◌∙◌, arith}
use Rattle.std.proofs.Math.ListN.{set}
use Rattle.ptk_words.specs.declared.faults.Status.{Status}
use Rattle.ptk_words_model.specs.Windows.{own_ticks}
use Rattle.ptk_words_model.specs.Run.{decided, next_from}
use Rattle.ptk_words_laws.specs.Quiet.{after_ticks}
use Rattle.ptk_words_laws.specs.Idle.{waiting_from}
use Rattle.ptk_kernel.specs.Kept.{limits_at, part_at}
use Rattle.ptk_system_machine.specs.Accounts.{KeptAccount, spent_account}
use Rattle.ptk_system_machine.specs.Turns.{HasDecided, IsFreeFrom, IsInWindow}
use Rattle.ptk_system_machine.specs.Whole.{Whole, IsWhole, account_at, no_account, put_state, state_at}
use Rattle.ptk_system_machine.proofs.States.{account_put, account_read, decided_whole, free_told, put_part-same, spent_next, still_whole}
use Rattle.ptk_system_machine.proofs.Prepared.{gone_before, kept_before, moved_before, part_whole, told_before}
use Rattle.ptk_system_machine.proofs.Coming.{at_coming, begins_from}
use Rattle.ptk_system_machine.proofs.Costs.{decision_costs}
use Rattle.ptk_system_machine.proofs.Ticks.{decided_on}
use Rattle.ptk_system_machine.proofs.machine.Machine.end_turn.Goals as goal

pub invariant_of-self : goal.invariant_of-self
invariant_of-self c =
    let lt : c.args.p < length c.self.inside.accounts.items = subst (λ (w : Whole). c.args.p < length w.accounts) (sym c.self.view_is) c.requires.partition in
    let account : c.index_mut-account.result.now ≡ get_or c.self.inside.accounts.items c.args.p no_account =
    account_read c.args.p c.index.result c.self.inside.accounts.items c.index_mut-account.result.now c.index_mut-account.ensures.value c.index.ensures lt in
    subst (λ (i : ℕ). IsWhole c.self.inside.tables (set c.self.inside.accounts.items i c.count.new.self)) (sym c.index.ensures)
    (still_whole c.args.p _ c.self.inside.tables c.self.inside.tables c.self.inside.accounts.items c.count.new.self c.self.invariant (sym (put_part-same c.args.p c.self.inside.tables))
    (ap (λ (a : KeptAccount). a.capacity) c.count.ensures ∙ ap (λ (a : KeptAccount). a.capacity) account))

pub returns-clause-on : goal.returns-clause-on
returns-clause-on c = λ on.
    let next = c.next.ensures
    ∙ (ap (λ (a : KeptAccount). a.account.next) c.count.ensures
    ∙ spent_next c.next_turn.result.0 c.index_mut-account.result.now.capacity (c.ticks.result - c.ticks-2.result) c.args.spent (part_at c.args.p c.self.inside.tables).last c.index_mut-account.result.now.account) in
    let later : c.args.turn.start + 1 ≤ c.coming.result.start =
    begins_from (c.args.turn.start + 1) c.args.from c.args.to c.next_turn.result.0 c.coming.result (omega (arith, on)) (omega (arith, c.requires.due)) c.next_turn.ensures.from (λ lt. sym next ∙ c.coming.ensures.due lt) in
    omega (arith, later)

pub returns-clause-walk : goal.returns-clause-walk
returns-clause-walk c =
    let next = c.next.ensures
    ∙ (ap (λ (a : KeptAccount). a.account.next) c.count.ensures
    ∙ spent_next c.next_turn.result.0 c.index_mut-account.result.now.capacity (c.ticks.result - c.ticks-2.result) c.args.spent (part_at c.args.p c.self.inside.tables).last c.index_mut-account.result.now.account) in
    at_coming c.args.plan.now c.args.p c.args.to c.next_turn.result.1 c.next_turn.result.0 c.next_turn.new.walk c.coming.result c.next_turn.ensures.walk (λ less. sym next ∙ c.coming.ensures.due less) c.coming.ensures.end

pub returns-clause-gone : goal.returns-clause-gone
returns-clause-gone c = λ s same made free.
    let lt : c.args.p < length c.self.inside.accounts.items = subst (λ (w : Whole). c.args.p < length w.accounts) (sym c.self.view_is) c.requires.partition in
    let window : IsInWindow (own_ticks c.args.plan.now c.args.p) c.args.turn.start c.args.turn.end = c.requires.coming.window c.requires.due in
    let less : c.args.turn.start < c.args.turn.end = window.before in
    let some : 1 ≤ c.args.turn.end - c.args.turn.start = omega (arith, less) in
    let due : (get_or c.self.inside.accounts.items c.args.p no_account).account.next ≡ Some c.args.turn.start = subst (λ (w : Whole). (account_at c.args.p w).account.next ≡ Some c.args.turn.start) (sym c.self.view_is) (c.requires.coming.due c.requires.due) in
    let account : c.index_mut-account.result.now ≡ get_or c.self.inside.accounts.items c.args.p no_account =
    account_read c.args.p c.index.result c.self.inside.accounts.items c.index_mut-account.result.now c.index_mut-account.ensures.value c.index.ensures lt in
    let put = account_put c.args.p c.index.result c.self.inside.accounts.items c.count.new.self c.index.ensures lt in
    let next = c.next.ensures
    ∙ (ap (λ (a : KeptAccount). a.account.next) c.count.ensures
    ∙ spent_next c.next_turn.result.0 c.index_mut-account.result.now.capacity (c.ticks.result - c.ticks-2.result) c.args.spent (part_at c.args.p c.self.inside.tables).last c.index_mut-account.result.now.account) in
    let here : (account_at c.args.p (record { kept = c.self.inside.tables; accounts = c.self.inside.accounts.items })).account ≡ s.account = subst (λ (w : Whole). (account_at c.args.p w).account ≡ s.account) (sym c.self.view_is) same in
    let done : HasDecided (limits_at c.args.p c.self.inside.tables) c.args.turn.start (c.args.turn.end - c.args.turn.start) c.args.spent s.part (part_at c.args.p c.self.inside.tables)
    = subst (λ (w : Whole). HasDecided (limits_at c.args.p w.kept) c.args.turn.start (c.args.turn.end - c.args.turn.start) c.args.spent s.part (part_at c.args.p w.kept)) (sym c.self.view_is) made in
    let behind : IsFreeFrom c.args.turn.start (c.args.turn.end - c.args.turn.start) c.args.spent c.args.to (part_at c.args.p c.self.inside.tables) c.args.from
    = subst (λ (w : Whole). IsFreeFrom c.args.turn.start (c.args.turn.end - c.args.turn.start) c.args.spent c.args.to (part_at c.args.p w.kept) c.args.from) (sym c.self.view_is) free in
    let told = told_before (length c.self.inside.accounts.items) c.args.p c.args.turn.start (c.args.turn.end - c.args.turn.start) s c.self.inside.tables c.args.spent c.self.invariant.parts lt done.told in
    let moved = moved_before (length c.self.inside.accounts.items) c.args.p c.args.turn.start (c.args.turn.end - c.args.turn.start) s c.self.inside.tables c.self.invariant.parts lt done.moved in
    let costs = decision_costs (limits_at c.args.p c.self.inside.tables) c.args.turn.start (c.args.turn.end - c.args.turn.start) s.part c.args.spent some done.told in
    let on : c.args.turn.start < c.coming.result.start = returns-clause-on c (omega (arith, costs, behind.behind)) in
    let le : c.args.from ≤ c.args.from = omega arith in
    let room : c.ticks.result - c.ticks-2.result ≡ c.args.turn.end - c.args.turn.start = cc in
    let counted : c.count.new.self
    ≡ record (get_or c.self.inside.accounts.items c.args.p no_account) { account = spent_account c.next_turn.result.0 (get_or c.self.inside.accounts.items c.args.p no_account).capacity (c.args.turn.end - c.args.turn.start) c.args.spent (part_at c.args.p c.self.inside.tables).last (get_or c.self.inside.accounts.items c.args.p no_account).account }
    = subst (λ (a : KeptAccount). c.count.new.self ≡ record a { account = spent_account c.next_turn.result.0 a.capacity (c.args.turn.end - c.args.turn.start) c.args.spent (part_at c.args.p c.self.inside.tables).last a.account }) account
    (subst (λ (r : ℕ). c.count.new.self ≡ record c.index_mut-account.result.now { account = spent_account c.next_turn.result.0 c.index_mut-account.result.now.capacity r c.args.spent (part_at c.args.p c.self.inside.tables).last c.index_mut-account.result.now.account }) room c.count.ensures) in
    let whole : IsWhole (kept_before c.args.p s c.self.inside.tables) c.self.inside.accounts.items = part_whole c.args.p s.part c.self.inside.tables (kept_before c.args.p s c.self.inside.tables) c.self.inside.accounts.items c.self.invariant refl in
    subst (λ (w : Whole). record { kept = c.self.inside.tables; accounts = set c.self.inside.accounts.items c.index.result c.count.new.self }
    ≡ put_state c.args.p (after_ticks (own_ticks c.args.plan.now c.args.p) (limits_at c.args.p w.kept) c.args.turn.start (c.coming.result.start - c.args.turn.start) s) w) c.self.view_is
    (gone_before (own_ticks c.args.plan.now c.args.p) c.args.p c.args.turn.start (c.coming.result.start - c.args.turn.start) s c.self.inside.tables c.self.inside.accounts.items
    (record { kept = c.self.inside.tables; accounts = set c.self.inside.accounts.items c.index.result c.count.new.self }) c.self.invariant lt here
    (decided_on c.args.plan.now c.args.p c.args.turn.start c.args.turn.end (c.args.turn.end - c.args.turn.start) c.args.from c.coming.result.start c.args.to
    (record { kept = kept_before c.args.p s c.self.inside.tables; accounts = c.self.inside.accounts.items }) (record { kept = c.self.inside.tables; accounts = set c.self.inside.accounts.items c.index.result c.count.new.self })
    c.is_plan.ensures whole lt (window.ends c.args.turn.start (omega arith) less) refl
    (decision_costs (limits_at c.args.p c.self.inside.tables) c.args.turn.start (c.args.turn.end - c.args.turn.start) (part_at c.args.p (kept_before c.args.p s c.self.inside.tables)) _ some refl)
    due on
    (λ within. begins_from c.args.from c.args.from c.args.to c.next_turn.result.0 c.coming.result le within c.next_turn.ensures.from (λ sooner. sym next ∙ c.coming.ensures.due sooner))
    (λ k at. c.coming.ensures.before k (c.next.ensures ∙ (sym (ap (λ (a : KeptAccount). a.account.next) put) ∙ at)))
    (free_told (length c.self.inside.accounts.items) c.args.p c.args.turn.start (c.args.turn.end - c.args.turn.start) c.args.to c.args.from (kept_before c.args.p s c.self.inside.tables) c.self.inside.tables c.args.spent
    whole.parts lt told moved behind)
    (subst (λ (i : ℕ). record { kept = c.self.inside.tables; accounts = set c.self.inside.accounts.items i c.count.new.self }
    ≡ put_state c.args.p (waiting_from (own_ticks c.args.plan.now c.args.p) c.args.from (decided (own_ticks c.args.plan.now c.args.p) (limits_at c.args.p c.self.inside.tables) c.args.turn.start (c.args.turn.end - c.args.turn.start) (state_at c.args.p (record { kept = kept_before c.args.p s c.self.inside.tables; accounts = c.self.inside.accounts.items }))))
    (record { kept = kept_before c.args.p s c.self.inside.tables; accounts = c.self.inside.accounts.items })) (sym c.index.ensures)
    (decided_whole (own_ticks c.args.plan.now c.args.p) c.args.turn.start (c.args.turn.end - c.args.turn.start) c.args.from c.args.p (kept_before c.args.p s c.self.inside.tables) c.self.inside.tables c.self.inside.accounts.items c.count.new.self
    c.args.spent c.next_turn.result.0 (part_at c.args.p c.self.inside.tables).last whole lt told moved
    (c.next_turn.ensures.next ∙ ap (λ (status : Status). next_from (own_ticks c.args.plan.now c.args.p) status c.args.from) c.status-status.ensures)
    refl counted))))
