use Rattle.std.proofs.Common.{◌≡◌, ℕ, ◌≤◌, List, sym, subst, ◌∙◌, ap}
use Rattle.ptk_words_model.specs.Windows.{WindowPlan, IsOwn, IsFirstOwn, IsPlan}
use Rattle.ptk_words_model.proofs.NextLaws.{next_one, next_none}
use Rattle.ptk_window.specs.declared.table.Table.{Table}
use Rattle.ptk_window.specs.Stages.{ArePlanned, plan_of}
use Rattle.ptk_window.specs.Turn.{IsShort}
use Rattle.ptk_window.proofs.Nexts.{turn_is, IsShort-at, turn_room}
use Rattle.ptk_window.proofs.plan.WindowPlan.next_of.Goals as goal

pub turn-requires-clause-room : goal.turn-requires-clause-room
turn-requires-clause-room c =
    let frame = c.self.inside.frame in
    let tables = c.as_slice-tables.result.now in
    let are : ArePlanned frame tables = subst (λ (ts : List Table). ArePlanned frame ts) (sym c.as_slice-tables.ensures.value) c.self.invariant in
    turn_room frame tables are c.args.partition c.args.tick c.search.new.self c.if-search.ensures

pub returns-then-search : goal.returns-then-search
returns-then-search c =
    let frame = c.self.inside.frame in
    let tables = c.as_slice-tables.result.now in
    let are : ArePlanned frame tables = subst (λ (ts : List Table). ArePlanned frame ts) (sym c.as_slice-tables.ensures.value) c.self.invariant in
    let seen : plan_of frame tables ≡ c.args.self.now = ap (plan_of frame) c.as_slice-tables.ensures.value ∙ c.self.view_is in
    let planned : IsPlan c.args.self.now = subst IsPlan seen are.plan in
    let first : IsFirstOwn c.args.self.now c.args.partition c.args.tick c.turn.result.start = subst (λ (plan : WindowPlan). IsFirstOwn plan c.args.partition c.args.tick c.turn.result.start) seen
    (turn_is frame tables are c.args.partition c.args.tick c.search.new.self c.if-search.ensures c.turn.result c.turn.ensures).0 in
    let short : IsShort c.args.self.now c.args.tick c.turn.result = subst (λ (plan : WindowPlan). IsShort plan c.args.tick c.turn.result) seen
    (IsShort-at frame tables are c.args.partition c.args.tick c.search.new.self c.if-search.ensures c.turn.result c.turn.ensures) in
    record {
      first = first;
      next = sym (next_one c.args.self.now c.args.partition c.args.tick c.turn.result.start planned first);
      near = short.0;
    }

pub returns-else-search : goal.returns-else-search
returns-else-search c =
    let frame = c.self.inside.frame in
    let tables = c.as_slice-tables.result.now in
    let are : ArePlanned frame tables = subst (λ (ts : List Table). ArePlanned frame ts) (sym c.as_slice-tables.ensures.value) c.self.invariant in
    let seen : plan_of frame tables ≡ c.args.self.now = ap (plan_of frame) c.as_slice-tables.ensures.value ∙ c.self.view_is in
    let planned : IsPlan c.args.self.now = subst IsPlan seen are.plan in
    let none : (n : ℕ) → c.args.tick ≤ n → ¬ IsOwn c.args.self.now c.args.partition n = subst (λ (plan : WindowPlan). (n : ℕ) → c.args.tick ≤ n → ¬ IsOwn plan c.args.partition n) seen c.if-search.ensures in
    record {
      first = none;
      next = sym (next_none c.args.self.now c.args.partition c.args.tick planned none);
      near = tt;
    }
