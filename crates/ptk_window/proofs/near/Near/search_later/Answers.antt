use Rattle.std.proofs.Common.{◌≡◌, ℕ, ◌+◌, ◌*◌, max, List, length, refl, sym, ap, subst, ◌∙◌, arith, inl, inr}
use Rattle.std.proofs.lemmas.Bool.{cases_lt}
use Rattle.ptk_words_model.specs.declared.window.Window.{Window}
use Rattle.ptk_window.specs.Order.{IsFirstAfter}
use Rattle.ptk_window.specs.Stages.{HasTick, from_at}
use Rattle.ptk_window.proofs.StageLaws.{from_is, begin_is, groups_slice}
use Rattle.ptk_window.proofs.Nexts.{latest_aligned, later_found, none_yet, none_still, none_here, none_ever, NoneFrom}
use Rattle.ptk_window.proofs.near.Near.search_later.Goals as goal

pub loop-later-init : goal.loop-later-init
loop-later-init c = none_yet c.args.frame c.args.tables.now c.requires.planned c.args.partition c.args.from c.args.stage c.requires.stage c.requires.begun

pub loop-later-preserved-then-end_of-frame_start : goal.loop-later-preserved-then-end_of-frame_start
loop-later-preserved-then-end_of-frame_start c =
    let frame = c.args.frame in
    let tables = c.args.tables.now in
    let t = c.index-tables-later.result in
    let begin : c.begin.result ≡ from_at tables c.loop-later.later * frame = c.begin.ensures.begin ∙ begin_is frame tables c.requires.planned c.loop-later.later t c.loop-later-test.true c.index-tables-later.is in
    let starts : c.max-frame_start.result ≡ max c.args.from c.begin.result = c.max-frame_start.ensures in
    none_still frame tables c.requires.planned c.args.partition c.args.from c.loop-later.later c.loop-later.invariant
    (λ k from has own.
    elim (cases_lt (c.loop-later.later + 1) (length tables)) [
      | inl more ↦
          let ends = c.end_of.ensures.next more frame c.requires.planned in
          omega (arith, ends, has.next more, has.begun, from, begin, starts, c.if-end_of-frame_start.true)
      | inr last ↦
          let ends = c.end_of.ensures.last last in
          omega (arith, ends, c.begin.ensures.room, c.requires.time, starts, c.if-end_of-frame_start.true)
    ])

pub invariant_of-self : goal.invariant_of-self
invariant_of-self c =
    let frame = c.args.frame in
    let tables = c.args.tables.now in
    let t = c.index-tables-later.result in
    let begin : c.begin.result ≡ from_at tables c.loop-later.later * frame = c.begin.ensures.begin ∙ begin_is frame tables c.requires.planned c.loop-later.later t c.loop-later-test.true c.index-tables-later.is in
    let starts : c.max-frame_start.result ≡ max c.args.from (from_at tables c.loop-later.later * frame) = c.max-frame_start.ensures ∙ ap (λ (n : ℕ). max c.args.from n) begin in
    record { aligned = rw (starts) (latest_aligned frame c.args.from (from_at tables c.loop-later.later) c.requires.planned.plan.frame c.requires.aligned) }

pub returns-in-Some-clause-next : goal.returns-in-Some-clause-next
returns-in-Some-clause-next c =
    let frame = c.args.frame in
    let tables = c.args.tables.now in
    let t = c.index-tables-later.result in
    let stage = c.loop-later.later in
    let begin : c.begin.result ≡ from_at tables stage * frame = c.begin.ensures.begin ∙ begin_is frame tables c.requires.planned stage t c.loop-later-test.true c.index-tables-later.is in
    let starts : c.max-frame_start.result ≡ max c.args.from (from_at tables stage * frame) = c.max-frame_start.ensures ∙ ap (λ (n : ℕ). max c.args.from n) begin in
    let number : from_at tables stage ≡ t.from = from_is tables stage t c.loop-later-test.true (sym c.index-tables-later.is) in
    let has : HasTick frame tables stage c.max-frame_start.result = record {
      within = c.loop-later-test.true;
      begun = omega (arith, starts);
      next = λ more. omega (arith, c.end_of.ensures.next more frame c.requires.planned, c.if-end_of-frame_start.false);
    } in
    let groups = groups_slice tables stage c.index-tables-later-in-loop-later.result c.deref.result.now c.loop-later-test.true c.index-tables-later-in-loop-later.is c.deref.ensures.value in
    later_found frame tables c.requires.planned c.args.partition c.args.from _ refl c.requires.time (omega (arith, number, t.early)) starts has c.loop-later.invariant
    (subst (λ (ws : List Window). IsFirstAfter ws c.args.partition 0 c.in-Some.place) (sym groups) c.in-Some.ensures)

pub loop-later-preserved : goal.loop-later-preserved
loop-later-preserved c =
    let frame = c.args.frame in
    let tables = c.args.tables.now in
    let stage = c.loop-later.later in
    let groups = groups_slice tables stage c.index-tables-later-in-loop-later.result c.deref.result.now c.loop-later-test.true c.index-tables-later-in-loop-later.is c.deref.ensures.value in
    none_still frame tables c.requires.planned c.args.partition c.args.from stage c.loop-later.invariant
    (λ k from has. none_here frame tables c.requires.planned c.args.partition stage k (subst (NoneFrom c.args.partition 0) (sym groups) c.in_default.ensures) has)

pub returns-clause-next : goal.returns-clause-next
returns-clause-next c =
    none_ever c.args.frame c.args.tables.now c.requires.planned c.args.partition c.args.from c.loop-later.later (omega (arith, c.loop-later-test.false)) c.loop-later.invariant
