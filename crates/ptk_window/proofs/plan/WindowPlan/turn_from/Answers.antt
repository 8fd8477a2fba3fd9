use Rattle.std.proofs.Common.{◌≡◌, ℕ, ◌≤◌, List, sym, subst, ◌∙◌, ap}
use Rattle.ptk_words_model.specs.Windows.{WindowPlan, IsOwn, IsPlan}
use Rattle.ptk_words_model.proofs.NextLaws.{next_none}
use Rattle.ptk_window.specs.declared.table.Table.{Table}
use Rattle.ptk_window.specs.Stages.{ArePlanned, plan_of}
use Rattle.ptk_window.specs.Turn.{IsTurn, IsShort}
use Rattle.ptk_window.proofs.Nexts.{IsTurn-at, IsShort-at, turn_room}
use Rattle.ptk_window.proofs.plan.WindowPlan.turn_from.Goals as goal

pub turn-requires-clause-room : goal.turn-requires-clause-room
turn-requires-clause-room c =
    let frame = c.self.inside.frame in
    let tables = c.as_slice-tables.result.now in
    let are : ArePlanned frame tables = subst (λ (ts : List Table). ArePlanned frame ts) (sym c.as_slice-tables.ensures.value) c.self.invariant in
    turn_room frame tables are c.args.partition c.args.tick c.look_up.new.self c.if-look_up.ensures

pub returns-then-look_up : goal.returns-then-look_up
returns-then-look_up c =
    let frame = c.self.inside.frame in
    let tables = c.as_slice-tables.result.now in
    let are : ArePlanned frame tables = subst (λ (ts : List Table). ArePlanned frame ts) (sym c.as_slice-tables.ensures.value) c.self.invariant in
    let seen : plan_of frame tables ≡ c.args.self.now = ap (plan_of frame) c.as_slice-tables.ensures.value ∙ c.self.view_is in
    let is = c.if-look_up.ensures in
    record {
      turn = subst (λ (plan : WindowPlan). IsTurn plan c.args.partition c.args.tick c.turn.result) seen (IsTurn-at frame tables are c.args.partition c.args.tick c.look_up.new.self is c.turn.result c.turn.ensures);
      near = subst (λ (plan : WindowPlan). IsShort plan c.args.tick c.turn.result) seen (IsShort-at frame tables are c.args.partition c.args.tick c.look_up.new.self is c.turn.result c.turn.ensures);
    }

pub returns-else-look_up-clause-turn : goal.returns-else-look_up-clause-turn
returns-else-look_up-clause-turn c =
    let frame = c.self.inside.frame in
    let tables = c.as_slice-tables.result.now in
    let are : ArePlanned frame tables = subst (λ (ts : List Table). ArePlanned frame ts) (sym c.as_slice-tables.ensures.value) c.self.invariant in
    let seen : plan_of frame tables ≡ c.args.self.now = ap (plan_of frame) c.as_slice-tables.ensures.value ∙ c.self.view_is in
    let planned : IsPlan c.args.self.now = subst IsPlan seen are.plan in
    next_none c.args.self.now c.args.partition c.args.tick planned (subst (λ (plan : WindowPlan). (n : ℕ) → c.args.tick ≤ n → ¬ IsOwn plan c.args.partition n) seen c.if-look_up.ensures)
