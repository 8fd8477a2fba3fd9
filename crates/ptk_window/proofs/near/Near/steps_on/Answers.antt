use Rattle.std.proofs.Common.{◌≡◌, ◌+◌, ◌<◌, ◌≤◌, All, List, length, get_or, eqb-true, refl, arith, sym, ap, subst, ◌∙◌}
use Rattle.std.proofs.lemmas.Bool.{eqb-false}
use Rattle.std.proofs.lemmas.List.{get_or_default}
use Rattle.ptk_words_model.specs.declared.window.Window.{Window}
use Rattle.ptk_window.specs.Stages.{HasTick, groups_at}
use Rattle.ptk_window.proofs.StageLaws.{groups_slice}
use Rattle.ptk_window.proofs.Nexts.{following, anew, all_ended, fits, grouped_at, next_frame_aligned}
use Rattle.ptk_window.proofs.near.Near.steps_on.Goals as goal
use Rattle.ptk_window.proofs.near.Near.steps_on.Goals.{else-next-windows-via-then-next-windows+else-eq, else-next-windows-via-else-next-windows}

pub returns-then-eq-clause-next : goal.returns-then-eq-clause-next
returns-then-eq-clause-next c went tick time ends =
    let frame = c.args.self.now.frame in
    let tables = c.args.tables.now in
    let stage = c.args.self.now.stage in
    let p = c.args.partition in
    let i = c.args.self.now.place in
    let w = c.index-windows-next.result in
    let ws = c.as_slice-windows.result.now in
    let all : List Window = groups_at tables stage in
    let groups : all ≡ ws = groups_slice tables stage c.index-tables-self.result ws c.requires.has.within c.index-tables-self.is c.as_slice-windows.ensures.value in
    let below : i + 1 < length all = subst (λ (l : List Window). i + 1 < length l) (sym groups) (omega (arith, c.if-next-windows.true)) in
    let is : get_or all (i + 1) w ≡ w = ap (λ (l : List Window). get_or l (i + 1) w) groups ∙ sym c.index-windows-next.is in
    let of_p : (get_or ws (i + 1) w).partition ≡ p = eqb-true (get_or ws (i + 1) w).partition p (sym c.eq.ensures ∙ c.if-eq.true) in
    let same : w.partition ≡ p = ap (λ (v : Window). v.partition) c.index-windows-next.is ∙ of_p in
    let order = (grouped_at frame tables c.requires.planned stage c.requires.has.within i (i + 1) w (omega arith) below).1 (c.requires.own w ∙ sym (ap (λ (v : Window). v.partition) is ∙ same)) in
    let before : (get_or all i w).start + (get_or all i w).length ≤ w.start = subst (λ (v : Window). (get_or all i w).start + (get_or all i w).length ≤ v.start) is order in
    let long = (fits frame tables c.requires.planned stage (i + 1) w c.requires.has.within below is).0 in
    following frame tables c.requires.planned p tick _ i w refl time c.requires.has (omega (arith, ends w)) refl below is same (omega (arith, ends w, before, long)) c.requires.own (λ d. omega (arith, ends d))

pub invariant_of-self-then-next_frame-stage_end : goal.invariant_of-self-then-next_frame-stage_end
invariant_of-self-then-next_frame-stage_end c =
    record {
      aligned = rw (c.from.ensures) (next_frame_aligned c.args.self.now.frame c.args.self.now.frame_start c.requires.planned.plan.frame c.args.self.now.aligned);
    }

pub returns-then-next_frame-stage_end-clause-next : goal.returns-then-next_frame-stage_end-clause-next
returns-then-next_frame-stage_end-clause-next c went tick time ends =
    let frame = c.args.self.now.frame in
    let tables = c.args.tables.now in
    let stage = c.args.self.now.stage in
    let p = c.args.partition in
    let i = c.args.self.now.place in
    let start = c.args.self.now.frame_start in
    let ws = c.as_slice-windows.result.now in
    let all : List Window = groups_at tables stage in
    let groups : all ≡ ws = groups_slice tables stage c.index-tables-self.result ws c.requires.has.within c.index-tables-self.is c.as_slice-windows.ensures.value in
    let last : (d : Window) → i + 1 < length all → ¬ ((get_or all (i + 1) d).partition ≡ p) = subst (λ (l : List Window). (d : Window) → i + 1 < length l → ¬ ((get_or l (i + 1) d).partition ≡ p)) (sym groups)
    (elim c.else-next-windows.branch [
      | else-next-windows-via-then-next-windows+else-eq b ↦ λ d below same.
          let v = b.index-windows-next.result in
          eqb-false (get_or ws (i + 1) v).partition p (sym b.eq.ensures ∙ b.if-eq.false) (subst (λ (x : Window). x.partition ≡ p) (get_or_default ws (i + 1) d v below) same)
      | else-next-windows-via-else-next-windows b ↦ λ d below same. omega (arith, b.if-next-windows.false, below)
    ]) in
    let ended : All (λ v. v.partition ≡ p → start + (v.start + v.length) ≤ tick) all =
    all_ended all p tick start i (grouped_at frame tables c.requires.planned stage c.requires.has.within) c.requires.place c.requires.own (λ d. omega (arith, ends d)) last in
    let none : Window = record { start = 0; length = 0; partition = 0 } in
    let w : Window = get_or all c.args.first none in
    let is : get_or all c.args.first w ≡ w = get_or_default all c.args.first w none c.requires.first.within in
    let v : Window = get_or all i none in
    let is_v : get_or all i v ≡ v = get_or_default all i v none c.requires.place in
    let low = (fits frame tables c.requires.planned stage i v c.requires.has.within c.requires.place is_v).1 in
    let long = (fits frame tables c.requires.planned stage c.args.first w c.requires.has.within c.requires.first.within is).0 in
    let has_next : HasTick frame tables stage (start + c.from.result) = record {
      within = c.requires.has.within;
      begun = omega (arith, c.requires.has.begun);
      next = λ more. omega (arith, c.requires.stage_end more, c.if-next_frame-stage_end.true);
    } in
    anew frame tables c.requires.planned p tick start stage _ w refl time (omega (arith, ends none)) c.args.self.now.aligned c.requires.has ended
    (omega (arith, c.from.ensures)) has_next c.requires.first is (omega (arith, ends none, low, long, c.from.ensures))
