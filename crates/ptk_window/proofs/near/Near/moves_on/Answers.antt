use Rattle.std.proofs.Common.{◌≡◌, ◌+◌, ◌<◌, List, length, get_or, ltb-true, eqb-true, refl, arith, sym, ap, subst, ◌∙◌}
use Rattle.std.proofs.lemmas.Bool.{eqb-false}
use Rattle.std.proofs.lemmas.List.{get_or_default}
use Rattle.ptk_words_model.specs.declared.window.Window.{Window}
use Rattle.ptk_window.specs.Stages.{groups_at}
use Rattle.ptk_window.proofs.StageLaws.{groups_slice}
use Rattle.ptk_window.proofs.Nexts.{following, all_ended, fits, short, grouped_at}
use Rattle.ptk_window.proofs.near.Near.moves_on.Goals as goal
use Rattle.ptk_window.proofs.near.Near.moves_on.Goals.{else-next-windows-via-then-next-windows+else-eq, else-next-windows-via-else-next-windows}

pub overflow_add-result : goal.overflow_add-result
overflow_add-result c =
    let frame = c.args.self.now.frame in
    let tables = c.args.tables.now in
    let stage = c.args.self.now.stage in
    let i = c.args.self.now.place in
    let w = c.index-windows-next-then-eq.result in
    let ws = c.as_slice-windows.result.now in
    let groups : groups_at tables stage ≡ ws = groups_slice tables stage c.index-tables-self.result ws c.requires.has.within c.index-tables-self.is c.as_slice-windows.ensures.value in
    let below : i + 1 < length (groups_at tables stage) = subst (λ (l : List Window). i + 1 < length l) (sym groups) (omega arith) in
    let is : get_or (groups_at tables stage) (i + 1) w ≡ w = ap (λ (l : List Window). get_or l (i + 1) w) groups ∙ sym c.index-windows-next-then-eq.is in
    let low = (fits frame tables c.requires.planned stage (i + 1) w c.requires.has.within below is).1 in
    omega (arith, low, short frame tables c.requires.planned, c.requires.begun, c.requires.time, c.end.ensures)

pub returns-then-eq : goal.returns-then-eq
returns-then-eq c ends =
    let frame = c.args.self.now.frame in
    let tables = c.args.tables.now in
    let stage = c.args.self.now.stage in
    let p = c.args.partition in
    let i = c.args.self.now.place in
    let v = c.index-windows-next.result in
    let w = c.index-windows-next-then-eq.result in
    let ws = c.as_slice-windows.result.now in
    let groups : groups_at tables stage ≡ ws = groups_slice tables stage c.index-tables-self.result ws c.requires.has.within c.index-tables-self.is c.as_slice-windows.ensures.value in
    let below : i + 1 < length (groups_at tables stage) = subst (λ (l : List Window). i + 1 < length l) (sym groups) (omega arith) in
    let is_v : get_or ws (i + 1) v ≡ v = sym c.index-windows-next.is in
    let is_w : get_or ws (i + 1) w ≡ w = sym c.index-windows-next-then-eq.is in
    let is : get_or (groups_at tables stage) (i + 1) w ≡ w = ap (λ (l : List Window). get_or l (i + 1) w) groups ∙ is_w in
    let same_v : (get_or ws (i + 1) v).partition ≡ p = eqb-true (get_or ws (i + 1) v).partition p (sym c.eq.ensures ∙ c.if-eq.true) in
    let same : w.partition ≡ p = subst (λ (x : Window). x.partition ≡ p) (get_or_default ws (i + 1) v w (omega arith) ∙ is_w) same_v in
    let after = ltb-true _ _ ends in
    following frame tables c.requires.planned p c.args.tick _ i w refl c.requires.time c.requires.has c.requires.begun refl below is same (omega (arith, after, c.ticks.ensures, c.end.ensures)) c.requires.own c.requires.ended

pub begins_anew-requires-clause-ended : goal.begins_anew-requires-clause-ended
begins_anew-requires-clause-ended c =
    let frame = c.args.self.now.frame in
    let tables = c.args.tables.now in
    let stage = c.args.self.now.stage in
    let ws = c.as_slice-windows.result.now in
    let p = c.args.partition in
    let i = c.args.self.now.place in
    let groups : groups_at tables stage ≡ ws = groups_slice tables stage c.index-tables-self.result ws c.requires.has.within c.index-tables-self.is c.as_slice-windows.ensures.value in
    all_ended (groups_at tables stage) p c.args.tick c.args.self.now.frame_start i (grouped_at frame tables c.requires.planned stage c.requires.has.within) c.requires.place c.requires.own c.requires.ended
    (subst (λ (l : List Window). (d : Window) → i + 1 < length l → ¬ ((get_or l (i + 1) d).partition ≡ p)) (sym groups)
    (elim c.else-next-windows.branch [
      | else-next-windows-via-then-next-windows+else-eq b ↦ λ d below same.
          let v = b.index-windows-next.result in
          eqb-false (get_or ws (i + 1) v).partition p (sym b.eq.ensures ∙ b.if-eq.false) (subst (λ (x : Window). x.partition ≡ p) (get_or_default ws (i + 1) d v below) same)
      | else-next-windows-via-else-next-windows b ↦ λ d below same. omega (arith, b.if-next-windows.false, below)
    ]))
