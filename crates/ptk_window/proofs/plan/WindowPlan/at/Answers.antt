use Rattle.std.proofs.Common.{◌≡◌, ℕ, ◌%◌, List, All, Contains, get_or, sym, subst, ◌∙◌, ap, arith}
use Rattle.ptk_words_model.specs.declared.window.Window.{Window}
use Rattle.ptk_words_model.specs.Windows.{WindowPlan, Holds, IsOwn, IsOwnUntil, IsPlan, end_from}
use Rattle.ptk_words_model.proofs.OwnLaws.{end_none, until_near}
use Rattle.ptk_window.specs.declared.table.Table.{Table}
use Rattle.ptk_window.specs.Order.{end_of}
use Rattle.ptk_window.specs.Stages.{ArePlanned, plan_of}
use Rattle.ptk_window.proofs.Found.{until, none_own, ends}
use Rattle.ptk_window.proofs.plan.WindowPlan.at.Goals as goal

pub returns-in_err-window : goal.returns-in_err-window
returns-in_err-window c =
    let frame = c.self.inside.frame in
    let tables = c.as_slice-tables.result.now in
    let are : ArePlanned frame tables = subst (λ (ts : List Table). ArePlanned frame ts) (sym c.as_slice-tables.ensures.value) c.self.invariant in
    let seen : plan_of frame tables ≡ c.args.self.now = ap (plan_of frame) c.as_slice-tables.ensures.value ∙ c.self.view_is in
    let t = c.index-tables-stage_at.result in
    let is : get_or tables c.stage_at.result t ≡ t = sym c.index-tables-stage_at.is in
    let place : c.ticks.result % c.from.result ≡ c.args.tick % frame = cc in
    let starts = c.deref.ensures.value in
    let found = subst (λ (n : ℕ). All (λ w. ¬ Holds w n) t.by_start.items) place (subst (λ (ws : List Window). All (λ w. ¬ Holds w (c.ticks.result % c.from.result)) ws) starts c.in_err-window.ensures) in
    let none : (p : ℕ) → ¬ IsOwn c.args.self.now p c.args.tick = subst (λ (plan : WindowPlan). (p : ℕ) → ¬ IsOwn plan p c.args.tick) seen (none_own frame tables are c.stage_at.result c.args.tick t c.stage_at.ensures is found) in
    record {
      own = rw c.from_residual.ensures none;
      ends = λ p. end_none c.args.self.now p c.args.tick (none p) ∙ ap (end_of p) (sym c.from_residual.ensures);
      near = rw c.from_residual.ensures tt;
    }

pub returns : goal.returns
returns c =
    let frame = c.self.inside.frame in
    let tables = c.as_slice-tables.result.now in
    let are : ArePlanned frame tables = subst (λ (ts : List Table). ArePlanned frame ts) (sym c.as_slice-tables.ensures.value) c.self.invariant in
    let seen : plan_of frame tables ≡ c.args.self.now = ap (plan_of frame) c.as_slice-tables.ensures.value ∙ c.self.view_is in
    let t = c.index-tables-stage_at.result in
    let w = c.in_ok-window.window in
    let is : get_or tables c.stage_at.result t ≡ t = sym c.index-tables-stage_at.is in
    let place : c.ticks.result % c.from.result ≡ c.args.tick % frame = cc in
    let starts = c.deref.ensures.value in
    let among : Contains t.by_start.items w = subst (λ (ws : List Window). Contains ws w) starts c.in_ok-window.ensures.0 in
    let holds : Holds w (c.args.tick % frame) = subst (Holds w) place c.in_ok-window.ensures.1 in
    let end : end_from frame c.args.tick w ≡ c.new.result = omega (arith, place, c.new.ensures, c.end.ensures, c.ticks-2.ensures) in
    let planned : IsPlan c.args.self.now = subst IsPlan seen are.plan in
    let found : IsOwnUntil c.args.self.now w.partition c.args.tick c.new.result = subst (λ (plan : WindowPlan). IsOwnUntil plan w.partition c.args.tick c.new.result) seen
    (subst (IsOwnUntil (plan_of frame tables) w.partition c.args.tick) end (until frame tables are c.stage_at.result c.args.tick t c.stage_at.ensures is w among holds)) in
    record {
      own = found;
      ends = ends c.args.self.now planned c.args.tick w.partition c.new.result found;
      near = until_near c.args.self.now w.partition c.args.tick c.new.result planned found;
    }
