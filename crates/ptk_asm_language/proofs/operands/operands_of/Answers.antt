use Rattle.std.proofs.Common.{arith, ◌≡◌, ◌<◌, ◌≤◌, ◌∙◌, sym, length}
use Rattle.std.proofs.lemmas.List.{get_or_default}
use Rattle.ptk_asm_language.specs.Operating.{shown}
use Rattle.ptk_asm_language.proofs.OperandList.{operands_more, operands_answer, operands_missing, operands_extra, operands_end}
use Rattle.ptk_asm_language.proofs.OperandPlaces.{index_more, placed_fault, placed_missing, placed_extra}
use Rattle.ptk_asm_language.proofs.operands.operands_of.Goals as goal

pub loop-i-preserved : goal.loop-i-preserved
loop-i-preserved c =
    let inside : c.loop-i.i < length c.args.slots.now = c.loop-i-test.true in
    let within : c.loop-i.i < length c.args.tokens.now = c.if-i-tokens.false in (
      omega (arith, within),
      operands_more (shown c.loop-i.operands) _ c.args.slots.now c.args.tokens.now c.loop-i.i _ _ inside within
          (get_or_default _ _ _ _ inside) (get_or_default _ _ _ _ within) c.in_default.ensures.ok ∙ c.loop-i.invariant.1,
      index_more (shown c.loop-i.operands) _ c.args.slots.now c.args.tokens.now c.loop-i.i _ _ inside within
          (get_or_default _ _ _ _ inside) (get_or_default _ _ _ _ within) c.in_default.ensures.ok ∙ c.loop-i.invariant.2,
    )

pub returns-clause-ok : goal.returns-clause-ok
returns-clause-ok c =
    let ended : c.loop-i.i ≡ length c.args.slots.now = omega (arith, c.loop-i-test.false, c.loop-i.auto.i-end) in
    let short : length c.args.tokens.now ≤ length c.args.slots.now = omega arith in
    sym c.loop-i.invariant.1 ∙ operands_end (shown c.loop-i.operands) c.args.slots.now c.args.tokens.now c.loop-i.i ended short

pub returns-then-i-tokens-clause-err : goal.returns-then-i-tokens-clause-err
returns-then-i-tokens-clause-err c =
    sym c.loop-i.invariant.1 ∙ operands_missing (shown c.loop-i.operands) c.args.slots.now c.args.tokens.now c.loop-i.i c.loop-i-test.true c.if-i-tokens.true

pub returns-then-i-tokens-clause-placed : goal.returns-then-i-tokens-clause-placed
returns-then-i-tokens-clause-placed c =
    placed_missing (shown c.loop-i.operands) c.args.slots.now c.args.tokens.now c.loop-i.i _ c.args.end c.if-i-tokens.true c.loop-i.invariant.2

pub returns-in-Err-clause-err : goal.returns-in-Err-clause-err
returns-in-Err-clause-err c =
    let inside : c.loop-i.i < length c.args.slots.now = c.loop-i-test.true in
    let within : c.loop-i.i < length c.args.tokens.now = c.if-i-tokens.false in
    operands_answer c.in-Err.kind (shown c.loop-i.operands) c.args.slots.now c.args.tokens.now c.loop-i.i _ _ _ inside within
    (get_or_default _ _ _ _ inside) (get_or_default _ _ _ _ within) c.in-Err.ensures.err c.loop-i.invariant.1

pub returns-in-Err-clause-placed : goal.returns-in-Err-clause-placed
returns-in-Err-clause-placed c =
    let inside : c.loop-i.i < length c.args.slots.now = c.loop-i-test.true in
    let within : c.loop-i.i < length c.args.tokens.now = c.if-i-tokens.false in
    placed_fault c.in-Err.kind (shown c.loop-i.operands) c.args.slots.now c.args.tokens.now c.loop-i.i _ c.args.end _ _ inside within
    (get_or_default _ _ _ _ inside) (get_or_default _ _ _ _ within) c.in-Err.ensures.err c.loop-i.invariant.2

pub returns-then-slots-tokens-clause-err : goal.returns-then-slots-tokens-clause-err
returns-then-slots-tokens-clause-err c =
    let ended : c.loop-i.i ≡ length c.args.slots.now = omega (arith, c.loop-i-test.false, c.loop-i.auto.i-end) in
    sym c.loop-i.invariant.1 ∙ operands_extra (shown c.loop-i.operands) c.args.slots.now c.args.tokens.now c.loop-i.i ended c.if-slots-tokens.true

pub returns-then-slots-tokens-clause-placed : goal.returns-then-slots-tokens-clause-placed
returns-then-slots-tokens-clause-placed c =
    let within : length c.args.slots.now < length c.args.tokens.now = c.if-slots-tokens.true in
    placed_extra (shown c.loop-i.operands) c.args.slots.now c.args.tokens.now c.loop-i.i _ c.args.end _ (omega (arith, c.loop-i-test.false, c.loop-i.auto.i-end)) within
    (get_or_default _ _ _ _ within) c.loop-i.invariant.2
