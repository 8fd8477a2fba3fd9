use Rattle.std.proofs.Common.{ap, refl}
use Rattle.ptk_window.specs.Near.{IsNextFrom}
use Rattle.ptk_window.specs.Walks.{Way, IsHere}
use Rattle.ptk_window.proofs.Nexts.{IsTurn-at, IsShort-at, turn_room}
use Rattle.ptk_window.proofs.Ways.{stay_holds, holds_stay, gone_on, here_on, turn_seen, short_seen}
use Rattle.ptk_window.proofs.walk.Walk.turn_after.Goals as goal

pub turn-requires-clause-place : goal.turn-requires-clause-place
turn-requires-clause-place c =
    let frame = c.self.inside.frame in
    let tables = c.self.inside.tables.now in
    let p = c.self.inside.partition in
    let here : IsHere frame tables p c.self.inside.near c.in-Some.stay = stay_holds c.self.inside.stay c.in-Some.stay (IsHere frame tables p c.self.inside.near) c.in-Some.is c.self.invariant.1 in
    let is : IsNextFrom frame tables p c.args.end c.steps_on.new.self =
    gone_on frame tables p c.args.end c.self.inside.near c.steps_on.new.self c.self.inside.stay c.in-Some.stay c.args.self.now.end here c.in-Some.is (ap (λ (w : Way). w.end) c.self.view_is) c.requires.at
    (λ ends. c.if-steps_on.ensures.next refl c.args.end c.requires.time ends) in
    is.within

pub turn-requires-clause-room : goal.turn-requires-clause-room
turn-requires-clause-room c =
    let frame = c.self.inside.frame in
    let tables = c.self.inside.tables.now in
    let p = c.self.inside.partition in
    let here : IsHere frame tables p c.self.inside.near c.in-Some.stay = stay_holds c.self.inside.stay c.in-Some.stay (IsHere frame tables p c.self.inside.near) c.in-Some.is c.self.invariant.1 in
    let is : IsNextFrom frame tables p c.args.end c.steps_on.new.self =
    gone_on frame tables p c.args.end c.self.inside.near c.steps_on.new.self c.self.inside.stay c.in-Some.stay c.args.self.now.end here c.in-Some.is (ap (λ (w : Way). w.end) c.self.view_is) c.requires.at
    (λ ends. c.if-steps_on.ensures.next refl c.args.end c.requires.time ends) in
    turn_room frame tables c.self.invariant.0 p c.args.end c.steps_on.new.self is

pub invariant_of-self : goal.invariant_of-self
invariant_of-self c =
    let frame = c.self.inside.frame in
    let tables = c.self.inside.tables.now in
    let p = c.self.inside.partition in
    let here : IsHere frame tables p c.self.inside.near c.in-Some.stay = stay_holds c.self.inside.stay c.in-Some.stay (IsHere frame tables p c.self.inside.near) c.in-Some.is c.self.invariant.1 in
    let is : IsNextFrom frame tables p c.args.end c.steps_on.new.self =
    gone_on frame tables p c.args.end c.self.inside.near c.steps_on.new.self c.self.inside.stay c.in-Some.stay c.args.self.now.end here c.in-Some.is (ap (λ (w : Way). w.end) c.self.view_is) c.requires.at
    (λ ends. c.if-steps_on.ensures.next refl c.args.end c.requires.time ends) in (
      c.self.invariant.0,
      holds_stay c.self.inside.stay c.in-Some.stay (IsHere frame tables p c.steps_on.new.self) c.in-Some.is (here_on frame tables p c.args.end c.self.inside.near c.steps_on.new.self c.in-Some.stay here c.steps_on.ensures.stage is),
    )

pub returns-then-steps_on-clause-turn : goal.returns-then-steps_on-clause-turn
returns-then-steps_on-clause-turn c =
    let frame = c.self.inside.frame in
    let tables = c.self.inside.tables.now in
    let p = c.self.inside.partition in
    let here : IsHere frame tables p c.self.inside.near c.in-Some.stay = stay_holds c.self.inside.stay c.in-Some.stay (IsHere frame tables p c.self.inside.near) c.in-Some.is c.self.invariant.1 in
    let is : IsNextFrom frame tables p c.args.end c.steps_on.new.self =
    gone_on frame tables p c.args.end c.self.inside.near c.steps_on.new.self c.self.inside.stay c.in-Some.stay c.args.self.now.end here c.in-Some.is (ap (λ (w : Way). w.end) c.self.view_is) c.requires.at
    (λ ends. c.if-steps_on.ensures.next refl c.args.end c.requires.time ends) in
    turn_seen c.args.self.now frame tables p c.args.end c.self.inside.near c.self.inside.stay c.turn.result c.self.view_is
    (IsTurn-at frame tables c.self.invariant.0 p c.args.end c.steps_on.new.self is c.turn.result c.turn.ensures)

pub returns-then-steps_on-clause-near : goal.returns-then-steps_on-clause-near
returns-then-steps_on-clause-near c =
    let frame = c.self.inside.frame in
    let tables = c.self.inside.tables.now in
    let p = c.self.inside.partition in
    let here : IsHere frame tables p c.self.inside.near c.in-Some.stay = stay_holds c.self.inside.stay c.in-Some.stay (IsHere frame tables p c.self.inside.near) c.in-Some.is c.self.invariant.1 in
    let is : IsNextFrom frame tables p c.args.end c.steps_on.new.self =
    gone_on frame tables p c.args.end c.self.inside.near c.steps_on.new.self c.self.inside.stay c.in-Some.stay c.args.self.now.end here c.in-Some.is (ap (λ (w : Way). w.end) c.self.view_is) c.requires.at
    (λ ends. c.if-steps_on.ensures.next refl c.args.end c.requires.time ends) in
    short_seen c.args.self.now frame tables p c.args.end c.self.inside.near c.self.inside.stay c.turn.result c.self.view_is
    (IsShort-at frame tables c.self.invariant.0 p c.args.end c.steps_on.new.self is c.turn.result c.turn.ensures)
