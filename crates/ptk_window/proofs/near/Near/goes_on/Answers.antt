use Rattle.std.proofs.Common.{◌≡◌, ℕ, ◌+◌, ◌<◌, ◌≤◌, List, length, get_or, leb-true, eqb-true, arith, refl, sym, ap, subst, ◌∙◌}
use Rattle.std.proofs.lemmas.Bool.{not-false}
use Rattle.std.proofs.lemmas.List.{get_or_default}
use Rattle.ptk_words_model.specs.declared.window.Window.{Window}
use Rattle.ptk_window.specs.Stages.{HasTick, groups_at}
use Rattle.ptk_window.proofs.StageLaws.{groups_slice}
use Rattle.ptk_window.proofs.Nexts.{inside, fits, short}
use Rattle.ptk_window.proofs.near.Near.goes_on.Goals as goal

pub overflow_add-self : goal.overflow_add-self
overflow_add-self c =
    let frame = c.args.frame in
    let tables = c.args.tables.now in
    let stage = c.args.self.now.stage in
    let place = c.args.self.now.place in
    let w = c.index-windows-self.result in
    let ws = c.as_slice-windows.result.now in
    let has = c.if-not-is_in_stage.ensures.has refl frame c.requires.planned in
    let groups : groups_at tables stage ≡ ws = groups_slice tables stage c.index-tables-self.result ws has.within c.index-tables-self.is c.as_slice-windows.ensures.value in
    let below : place < length (groups_at tables stage) = subst (λ (l : List Window). place < length l) (sym groups) (omega arith) in
    let is : get_or (groups_at tables stage) place w ≡ w = ap (λ (l : List Window). get_or l place w) groups ∙ sym c.index-windows-self.is in
    let low = (fits frame tables c.requires.planned stage place w has.within below is).1 in
    omega (arith, low, short frame tables c.requires.planned, c.requires.time, c.if-ticks-self.false, c.ticks.ensures, c.end.ensures)

pub overflow_add-result : goal.overflow_add-result
overflow_add-result c =
    let frame = c.args.frame in
    let tables = c.args.tables.now in
    let stage = c.args.self.now.stage in
    let place = c.args.self.now.place in
    let w = c.index-windows-self.result in
    let ws = c.as_slice-windows.result.now in
    let has = c.if-not-is_in_stage.ensures.has refl frame c.requires.planned in
    let groups : groups_at tables stage ≡ ws = groups_slice tables stage c.index-tables-self.result ws has.within c.index-tables-self.is c.as_slice-windows.ensures.value in
    let below : place < length (groups_at tables stage) = subst (λ (l : List Window). place < length l) (sym groups) (omega arith) in
    let is : get_or (groups_at tables stage) place w ≡ w = ap (λ (l : List Window). get_or l place w) groups ∙ sym c.index-windows-self.is in
    let low = (fits frame tables c.requires.planned stage place w has.within below is).1 in
    omega (arith, low, short frame tables c.requires.planned, c.requires.time, c.if-ticks-self.false, c.ticks.ensures, c.from.ensures)

pub returns-then-ticks-self-2 : goal.returns-then-ticks-self-2
returns-then-ticks-self-2 c begun =
    let frame = c.args.frame in
    let tables = c.args.tables.now in
    let stage = c.args.self.now.stage in
    let place = c.args.self.now.place in
    let w = c.index-windows-self.result in
    let ws = c.as_slice-windows.result.now in
    let has = c.if-not-is_in_stage.ensures.has refl frame c.requires.planned in
    let groups : groups_at tables stage ≡ ws = groups_slice tables stage c.index-tables-self.result ws has.within c.index-tables-self.is c.as_slice-windows.ensures.value in
    let below : place < length (groups_at tables stage) = subst (λ (l : List Window). place < length l) (sym groups) (omega arith) in
    let is : get_or (groups_at tables stage) place w ≡ w = ap (λ (l : List Window). get_or l place w) groups ∙ sym c.index-windows-self.is in
    let same : w.partition ≡ c.args.partition = eqb-true w.partition c.args.partition (not-false _ (sym c.ne.ensures ∙ c.if-ne.false)) in
    let from = leb-true _ _ begun in
    inside frame tables c.requires.planned c.args.partition c.args.tick c.args.self.now w (omega arith) c.requires.time has below is same
    (omega (arith, from, c.from.ensures, c.ticks-then-ticks-self-2.ensures)) (omega (arith, c.if-ticks-self-2.true, c.ticks-2.ensures, c.end.ensures))

pub moves_on-requires-clause-has : goal.moves_on-requires-clause-has
moves_on-requires-clause-has c =
    let same : c.args.frame ≡ c.args.self.now.frame = omega arith in
    subst (λ (n : ℕ). HasTick n c.args.tables.now c.args.self.now.stage c.args.self.now.frame_start) same (c.if-not-is_in_stage.ensures.has refl c.args.frame c.requires.planned)

pub moves_on-requires-clause-place : goal.moves_on-requires-clause-place
moves_on-requires-clause-place c =
    let tables = c.args.tables.now in
    let stage = c.args.self.now.stage in
    let ws = c.as_slice-windows.result.now in
    let has = c.if-not-is_in_stage.ensures.has refl c.args.frame c.requires.planned in
    let groups : groups_at tables stage ≡ ws = groups_slice tables stage c.index-tables-self.result ws has.within c.index-tables-self.is c.as_slice-windows.ensures.value in
    subst (λ (l : List Window). c.args.self.now.place < length l) (sym groups) (omega arith)

pub moves_on-requires-clause-own : goal.moves_on-requires-clause-own
moves_on-requires-clause-own c d =
    let tables = c.args.tables.now in
    let stage = c.args.self.now.stage in
    let place = c.args.self.now.place in
    let w = c.index-windows-self.result in
    let ws = c.as_slice-windows.result.now in
    let has = c.if-not-is_in_stage.ensures.has refl c.args.frame c.requires.planned in
    let groups : groups_at tables stage ≡ ws = groups_slice tables stage c.index-tables-self.result ws has.within c.index-tables-self.is c.as_slice-windows.ensures.value in
    let same : w.partition ≡ c.args.partition = eqb-true w.partition c.args.partition (not-false _ (sym c.ne.ensures ∙ c.if-ne.false)) in
    let is_d : get_or (groups_at tables stage) place d ≡ w = ap (λ (l : List Window). get_or l place d) groups ∙ (get_or_default ws place d w (omega arith) ∙ sym c.index-windows-self.is) in
    ap (λ (v : Window). v.partition) is_d ∙ same

pub moves_on-requires-clause-ended : goal.moves_on-requires-clause-ended
moves_on-requires-clause-ended c d =
    let tables = c.args.tables.now in
    let stage = c.args.self.now.stage in
    let place = c.args.self.now.place in
    let w = c.index-windows-self.result in
    let ws = c.as_slice-windows.result.now in
    let has = c.if-not-is_in_stage.ensures.has refl c.args.frame c.requires.planned in
    let groups : groups_at tables stage ≡ ws = groups_slice tables stage c.index-tables-self.result ws has.within c.index-tables-self.is c.as_slice-windows.ensures.value in
    let is_d : get_or (groups_at tables stage) place d ≡ w = ap (λ (l : List Window). get_or l place d) groups ∙ (get_or_default ws place d w (omega arith) ∙ sym c.index-windows-self.is) in
    subst (λ (v : Window). c.args.self.now.frame_start + (v.start + v.length) ≤ c.args.tick) (sym is_d) (omega (arith, c.if-ticks-self-2.false, c.ticks-2.ensures, c.end.ensures))
