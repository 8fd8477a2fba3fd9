use Rattle.std.proofs.Common.{ℕ, List, ◌∷◌, arith, refl, sym, subst}
use Rattle.ptk_asm_language.specs.declared.place.Span.{Span}
use Rattle.ptk_asm_language.specs.declared.fault.FaultKind.{FaultKind}
use Rattle.ptk_asm_language.specs.Reading.{Refuses, IsPlaced}
use Rattle.ptk_asm_language.specs.Source.{line_fault, line_place}
use Rattle.ptk_asm.proofs.Texts.{behind_more}
use Rattle.ptk_asm.proofs.Faults.{IsLocated, first_at}
use Rattle.ptk_asm.proofs.first_pass.first_pass.Goals as goal

-- one line more, which holds no fault
pub loop-rest-preserved : goal.loop-rest-preserved
loop-rest-preserved c =
    let h = c.loop-rest.invariant in
    let before : List (List ℕ) = h.1.0 in
    let line : List ℕ = c.split_line.result.0.now in (
      omega (arith, h.0, c.split_line.ensures.lengths, c.split_line.ensures.filled),
      (
        line ∷ before,
        (
          c.in_default.ensures.next before (c.span_of-span.ensures.value before h.1.1.1) h.1.1.0,
          behind_more _ _ _ _ _ _ h.1.1.1 c.split_line.ensures.lines c.split_line.ensures.lengths (c.in_default.ensures.ok before h.1.1.0),
        ),
      ),
    )

-- the fault of a line
pub returns-in-Err-clause-err : goal.returns-in-Err-clause-err
returns-in-Err-clause-err c =
    let h = c.loop-rest.invariant in
    let before : List (List ℕ) = h.1.0 in
    let line : List ℕ = c.split_line.result.0.now in
    let located : IsLocated c.located.result c.span_of-span.result c.in-Err.fault = record {
      line = c.located.ensures.line;
      ordered = c.located.ensures.ordered;
      before_end = c.located.ensures.before_end;
      first = c.located.ensures.first;
      last = c.located.ensures.last;
    } in
    first_at c.located.result.kind c.located.result c.in-Err.fault c.args.source.now c.loop-rest.rest.now c.split_line.result.1.now line c.loop-rest.number before h.1.1.1 c.split_line.ensures.lines refl
    (subst (λ (s : Span). IsLocated c.located.result s c.in-Err.fault) (c.span_of-span.ensures.value before h.1.1.1) located)
    (subst (λ (k : FaultKind). Refuses k (line_fault before line)) (sym c.located.ensures.kind) (c.in-Err.ensures.err before h.1.1.0))
    (subst (λ (k : FaultKind). IsPlaced k c.in-Err.fault (line_place before line)) (sym c.located.ensures.kind) (c.in-Err.ensures.placed before h.1.1.0))
