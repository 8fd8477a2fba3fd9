use Rattle.std.proofs.Common.{◌≡◌, List, get_or, ltb-true, refl, sym, ap, subst, ◌∙◌, arith}
use Rattle.ptk_words_model.specs.declared.window.Window.{Window}
use Rattle.ptk_window.specs.Order.{IsFirst}
use Rattle.ptk_window.specs.Stages.{groups_at}
use Rattle.ptk_window.proofs.StageLaws.{groups_is, groups_slice}
use Rattle.ptk_window.proofs.Nexts.{next_frame_aligned, anew, fits, short}
use Rattle.ptk_window.proofs.near.Near.begins_anew.Goals as goal

pub invariant_of-self : goal.invariant_of-self
invariant_of-self c =
    record {
      aligned = rw (c.from.ensures) (next_frame_aligned c.args.self.now.frame c.args.self.now.frame_start c.requires.planned.plan.frame c.args.self.now.aligned);
    }

pub overflow_add-result : goal.overflow_add-result
overflow_add-result c =
    let frame = c.args.self.now.frame in
    let tables = c.args.tables.now in
    let stage = c.next_stage-stage.result in
    let place = c.in-Some.place in
    let w = c.index-windows-place.result in
    let ws = c.as_slice-windows.result.now in
    let seen = groups_is tables stage c.index-tables-stage.result c.next_stage-stage.ensures.within (sym c.index-tables-stage.is) in
    let groups : groups_at tables stage ≡ ws = groups_slice tables stage c.index-tables-stage-2.result ws c.next_stage-stage.ensures.within c.index-tables-stage-2.is c.as_slice-windows.ensures.value in
    let first : IsFirst (groups_at tables stage) c.args.partition place = subst (λ (l : List Window). IsFirst l c.args.partition place) (sym seen) c.in-Some.ensures in
    let is : get_or (groups_at tables stage) place w ≡ w = ap (λ (l : List Window). get_or l place w) groups ∙ sym c.index-windows-place.is in
    let low = (fits frame tables c.requires.planned stage place w c.next_stage-stage.ensures.within first.within is).1 in
    omega (arith, low, short frame tables c.requires.planned, c.requires.begun, c.requires.time, c.from.ensures, c.end.ensures)

pub returns : goal.returns
returns c ends =
    let frame = c.args.self.now.frame in
    let tables = c.args.tables.now in
    let stage = c.next_stage-stage.result in
    let place = c.in-Some.place in
    let w = c.index-windows-place.result in
    let ws = c.as_slice-windows.result.now in
    let seen = groups_is tables stage c.index-tables-stage.result c.next_stage-stage.ensures.within (sym c.index-tables-stage.is) in
    let groups : groups_at tables stage ≡ ws = groups_slice tables stage c.index-tables-stage-2.result ws c.next_stage-stage.ensures.within c.index-tables-stage-2.is c.as_slice-windows.ensures.value in
    let first : IsFirst (groups_at tables stage) c.args.partition place = subst (λ (l : List Window). IsFirst l c.args.partition place) (sym seen) c.in-Some.ensures in
    let is : get_or (groups_at tables stage) place w ≡ w = ap (λ (l : List Window). get_or l place w) groups ∙ sym c.index-windows-place.is in
    let after = ltb-true _ _ ends in
    anew frame tables c.requires.planned c.args.partition c.args.tick c.args.self.now.frame_start c.args.self.now.stage _ w refl c.requires.time c.requires.begun c.args.self.now.aligned c.requires.has c.requires.ended
    (omega (arith, c.from.ensures)) c.next_stage-stage.ensures first is (omega (arith, after, c.ticks.ensures, c.end.ensures))
