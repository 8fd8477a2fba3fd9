use Rattle.std.proofs.Common.{◌≡◌, None, subst}
use Rattle.ptk_words_model.specs.Windows.{own_ticks}
use Rattle.ptk_window.specs.Walks.{Way}
use Rattle.ptk_window.proofs.Nexts.{IsTurn-at, IsShort-at, turn_room, no_turn}
use Rattle.ptk_window.proofs.Ways.{here_known, turn_seen, short_seen}
use Rattle.ptk_window.proofs.walk.Walk.turn_from.Goals as goal

pub returns-then-not-look_up-clause-turn : goal.returns-then-not-look_up-clause-turn
returns-then-not-look_up-clause-turn c =
    subst (λ (w : Way). (own_ticks w.plan w.partition).next_of c.args.tick ≡ None) c.self.view_is (no_turn c.self.inside.frame c.self.inside.tables.now c.self.invariant.0 c.self.inside.partition c.args.tick c.if-not-look_up.ensures)

pub turn-requires-clause-room : goal.turn-requires-clause-room
turn-requires-clause-room c = turn_room c.self.inside.frame c.self.inside.tables.now c.self.invariant.0 c.self.inside.partition c.args.tick c.look_up.new.self c.if-not-look_up.ensures

pub invariant_of-self-2 : goal.invariant_of-self-2
invariant_of-self-2 c = (
  c.self.invariant.0,
  here_known c.self.inside.frame c.self.inside.tables.now c.self.inside.partition c.args.tick c.stage.result c.look_up.new.self c.stay_in-self-inside.result c.self.invariant.0 c.if-not-look_up.ensures c.stage.ensures
      c.stay_in-self-inside.ensures.first c.stay_in-self-inside.ensures.ends,
)

pub returns-clause-turn : goal.returns-clause-turn
returns-clause-turn c =
    turn_seen c.args.self.now c.self.inside.frame c.self.inside.tables.now c.self.inside.partition c.args.tick c.self.inside.near c.self.inside.stay c.turn.result c.self.view_is
    (IsTurn-at c.self.inside.frame c.self.inside.tables.now c.self.invariant.0 c.self.inside.partition c.args.tick c.look_up.new.self c.if-not-look_up.ensures c.turn.result c.turn.ensures)

pub returns-clause-near : goal.returns-clause-near
returns-clause-near c =
    short_seen c.args.self.now c.self.inside.frame c.self.inside.tables.now c.self.inside.partition c.args.tick c.self.inside.near c.self.inside.stay c.turn.result c.self.view_is
    (IsShort-at c.self.inside.frame c.self.inside.tables.now c.self.invariant.0 c.self.inside.partition c.args.tick c.look_up.new.self c.if-not-look_up.ensures c.turn.result c.turn.ensures)
