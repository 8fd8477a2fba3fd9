use Rattle.std.proofs.Common.{◌≡◌, ℕ, ◌+◌, ◌-◌, ◌%◌, List, refl, sym, subst, arith}
use Rattle.std.proofs.lemmas.Nat.{mod_below, div-add-mod'}
use Rattle.ptk_words_model.specs.declared.window.Window.{Window}
use Rattle.ptk_window.specs.Order.{IsFirstAfter}
use Rattle.ptk_window.specs.Stages.{groups_at}
use Rattle.ptk_window.proofs.StageLaws.{groups_slice}
use Rattle.ptk_window.proofs.Nexts.{frame_start_aligned, next_frame_aligned, found, from_later, none_rest, NoneFrom}
use Rattle.ptk_window.proofs.near.Near.search.Goals as goal

pub invariant_of-self : goal.invariant_of-self
invariant_of-self c =
    record { aligned = rw (c.ticks-2.ensures, c.ticks.ensures, c.from.ensures) (frame_start_aligned c.args.frame c.args.tick c.requires.planned.plan.frame) }

pub returns-in-Some : goal.returns-in-Some
returns-in-Some c =
    let tables = c.args.tables.now in
    let stage = c.stage_at-stage.result in
    let place : c.ticks.result % c.from.result ≡ c.args.tick % c.args.frame = cc in
    let groups = groups_slice tables stage c.index-tables-stage.result c.deref.result.now c.stage_at-stage.ensures.within c.index-tables-stage.is c.deref.ensures.value in
    found c.args.frame tables c.requires.planned c.args.partition c.args.tick _ refl c.requires.time (omega (arith, place, c.ticks-2.ensures)) c.stage_at-stage.ensures
    (subst (λ (n : ℕ). IsFirstAfter (groups_at tables stage) c.args.partition n c.in-Some.place) place
    (subst (λ (ws : List Window). IsFirstAfter ws c.args.partition (c.ticks.result % c.from.result) c.in-Some.place) (sym groups) c.in-Some.ensures))

pub search_later-requires-clause-aligned : goal.search_later-requires-clause-aligned
search_later-requires-clause-aligned c =
    rw (c.ticks-2.ensures, c.ticks.ensures, c.from.ensures, c.from-2.ensures)
    (next_frame_aligned c.args.frame (c.args.tick - c.args.tick % c.args.frame) c.requires.planned.plan.frame (frame_start_aligned c.args.frame c.args.tick c.requires.planned.plan.frame))

pub returns : goal.returns
returns c =
    let frame = c.args.frame in
    let tables = c.args.tables.now in
    let stage = c.stage_at-stage.result in
    let place : c.ticks.result % c.from.result ≡ c.args.tick % frame = cc in
    let below = mod_below c.args.tick frame c.requires.planned.plan.frame in
    let split = div-add-mod' c.args.tick frame in
    let from : c.ticks-2.result - c.ticks.result % c.from.result + c.from-2.result ≡ c.args.tick - c.args.tick % frame + frame = omega (arith, place, c.ticks-2.ensures, c.from-2.ensures) in
    let groups = groups_slice tables stage c.index-tables-stage.result c.deref.result.now c.stage_at-stage.ensures.within c.index-tables-stage.is c.deref.ensures.value in
    let ended = subst (λ (n : ℕ). NoneFrom c.args.partition n (groups_at tables stage)) place (subst (NoneFrom c.args.partition (c.ticks.result % c.from.result)) (sym groups) c.in_default.ensures) in
    from_later frame tables c.requires.planned c.args.partition c.args.tick (c.ticks-2.result - c.ticks.result % c.from.result + c.from-2.result) c.search_later.new.self c.search_later.result
    (omega (arith, from, below, split))
    (λ k low high. none_rest frame tables c.requires.planned c.args.partition c.args.tick stage k c.stage_at-stage.ensures ended low (omega (arith, high, from)))
    c.search_later.ensures.later c.search_later.ensures.next
