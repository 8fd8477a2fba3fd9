use Rattle.std.proofs.Common.{◌≡◌, ◌≤◌, length, Option, ◌∷◌, Some, None, subst, ap, refl, arith}
use Rattle.std.specs.Prelude.{OnOk, IfErr}
use Rattle.ptk_asm_language.specs.declared.fault.FaultKind.{FaultKind}
use Rattle.ptk_asm_language.specs.Tokens.{tokens_of}
use Rattle.ptk_asm_language.specs.declared.place.Extent.{Extent}
use Rattle.ptk_asm_language.specs.Lines.{without_ending}
use Rattle.ptk_asm_language.specs.Places.{places_of, last_place}
use Rattle.ptk_asm_language.specs.Reading.{views, spots, Refuses, IsPlaced}
use Rattle.ptk_asm.specs.Passing.{State, Shows, Reaches, state_after}
use Rattle.ptk_asm_language.specs.Source.{line_fault}
use Rattle.ptk_asm.proofs.Whole.{whole-line}
use Rattle.ptk_asm.proofs.Texts.{last_line, place_line, state_line, fault_line, on_ok_map}
use Rattle.ptk_asm.proofs.Inside.{last-inside}
use Rattle.ptk_asm.proofs.layout.Layout.take_line.Goals as goal

pub returns-clause-ok : goal.returns-clause-ok
returns-clause-ok c = λ before h.
    let t : tokens_of c.without_comment-code.result.now ≡ Some (views c.deref.result.now) = rw c.deref.ensures.value c.in_ok-tokens.ensures.ok in
    subst (λ (x : Option FaultKind). OnOk c.take_tokens.result (x ≡ None)) (fault_line before c.args.line.now _ _ _ c.without_ending.ensures.value c.without_comment-code.ensures.value t) (c.take_tokens.ensures.ok (state_after before) h.shows)

pub returns-clause-next : goal.returns-clause-next
returns-clause-next c = λ before s h.
    let spots_are : spots c.deref.result.now ≡ places_of c.without_comment-code.result.now = rw c.deref.ensures.value c.in_ok-tokens.ensures.spots in
    let t : tokens_of c.without_comment-code.result.now ≡ Some (views c.deref.result.now) = rw c.deref.ensures.value c.in_ok-tokens.ensures.ok in
    let shown : OnOk c.take_tokens.result (Shows c.take_tokens.new.self (state_after (c.args.line.now ∷ before))) =
    subst (λ (x : State). OnOk c.take_tokens.result (Shows c.take_tokens.new.self x)) (state_line before c.args.line.now _ _ c.args.span _ _ c.without_ending.ensures.value c.without_comment-code.ensures.value t s (last_line c.args.line.now _ _ _ c.without_ending.ensures.value c.without_comment-code.ensures.value spots_are)) (c.take_tokens.ensures.next (state_after before) h.shows) in
    on_ok_map c.take_tokens.result (line_fault before c.args.line.now ≡ None) (Shows c.take_tokens.new.self (state_after (c.args.line.now ∷ before))) (Reaches c.take_tokens.new.self (c.args.line.now ∷ before))
    (λ e x. record { shows = x; whole = whole-line before c.args.line.now e h.whole }) (returns-clause-ok c before h) shown

pub returns-clause-err : goal.returns-clause-err
returns-clause-err c = λ before h.
    let t : tokens_of c.without_comment-code.result.now ≡ Some (views c.deref.result.now) = rw c.deref.ensures.value c.in_ok-tokens.ensures.ok in
    subst (λ (x : Option FaultKind). IfErr c.take_tokens.result (λ e. Refuses e.kind x)) (fault_line before c.args.line.now _ _ _ c.without_ending.ensures.value c.without_comment-code.ensures.value t) (c.take_tokens.ensures.err (state_after before) h.shows)

pub take_tokens-requires-clause-forward : goal.take_tokens-requires-clause-forward
take_tokens-requires-clause-forward c =
    let spots_are : spots c.deref.result.now ≡ places_of c.without_comment-code.result.now = rw c.deref.ensures.value c.in_ok-tokens.ensures.spots in
    rw spots_are (last-inside c.without_comment-code.result.now).ordered

pub take_tokens-requires-clause-inside : goal.take_tokens-requires-clause-inside
take_tokens-requires-clause-inside c =
    let spots_are : spots c.deref.result.now ≡ places_of c.without_comment-code.result.now = rw c.deref.ensures.value c.in_ok-tokens.ensures.spots in
    let within : (last_place (places_of c.without_comment-code.result.now)).to ≤ length c.without_comment-code.result.now = (last-inside c.without_comment-code.result.now).within in
    let bare : length c.without_ending.result.now ≡ length (without_ending c.args.line.now) = ap length c.without_ending.ensures.value in
    rw spots_are (omega (arith, within, bare, c.without_comment-code.ensures.shorter, c.requires))

pub returns-clause-placed : goal.returns-clause-placed
returns-clause-placed c = λ before h.
    let t : tokens_of c.without_comment-code.result.now ≡ Some (views c.deref.result.now) = rw c.deref.ensures.value c.in_ok-tokens.ensures.ok in
    let spots_are : spots c.deref.result.now ≡ places_of c.without_comment-code.result.now = rw c.deref.ensures.value c.in_ok-tokens.ensures.spots in
    subst (λ (x : Extent). IfErr c.take_tokens.result (λ e. IsPlaced e.kind e x))
    (place_line before c.args.line.now _ _ _ _ _ c.without_ending.ensures.value c.without_comment-code.ensures.value t spots_are refl)
    (c.take_tokens.ensures.placed (state_after before) h.shows)
