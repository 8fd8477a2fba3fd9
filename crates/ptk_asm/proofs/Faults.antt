-- The fault of the code is the first one of the source.
use Rattle.std.proofs.Common.{◌≡◌, ℕ, ◌+◌, ◌≤◌, length, arith, List, [], ◌∷◌, Some, Option, sym, ap, ◌∙◌}
use Rattle.std.specs.Prelude.{Err}
use Rattle.ptk_asm_language.specs.declared.place.Span.{Span}
use Rattle.ptk_asm_language.specs.declared.place.Extent.{Extent}
use Rattle.ptk_asm_language.specs.declared.fault.FaultKind.{FaultKind}
use Rattle.ptk_asm_language.specs.declared.fault.FaultKind.TheVariants as fault
use Rattle.ptk_asm_language.specs.declared.fault.LineFault.{LineFault}
use Rattle.ptk_asm_language.specs.Lines.{raw_lines, without_ending}
use Rattle.ptk_asm_language.specs.Reading.{Refuses, IsPlaced, fault_spot}
use Rattle.ptk_asm_language.specs.Source.{line_fault, line_place, at_line, first_pass, span_after}
use Rattle.ptk_asm.specs.declared.fault.AsmFault.{AsmFault}
use Rattle.ptk_asm.specs.Passing.{IsBehind, IsFirst, Tells}
use Rattle.ptk_asm.proofs.Inside.{IsInside, line-inside}

-- what the code says of a fault of a line in the source
pub record IsLocated (e : AsmFault) (span : Span) (fault : LineFault) : Type 0 where
  pub line : e.line ≡ span.line
  pub ordered : e.from ≤ e.to
  pub before_end : e.to ≤ span.end
  pub first : fault.from ≤ fault.to → span.start + fault.to ≤ span.end → e.from ≡ span.start + fault.from
  pub last : span.start + fault.to ≤ span.end → e.to ≡ span.start + fault.to

tells_at : (e : AsmFault) (span : Span) (fault : LineFault) (place : Extent) (k : FaultKind) → e.kind ≡ k → IsLocated e span fault → fault_spot fault ≡ place → place.from ≤ place.to → span.start + place.to ≤ span.end
    → Tells e (record { span = span; place = place; kind = k })
tells_at e span fault place k is h same ordered within =
    let from : fault.from ≡ place.from = ap (λ (x : Extent). x.from) same in
    let to : fault.to ≡ place.to = ap (λ (x : Extent). x.to) same in
    let rises : fault.from ≤ fault.to = rw (from, to) ordered in
    let inside : span.start + fault.to ≤ span.end = rw to within in
    record {
      kind = is;
      line = h.line;
      first = h.first rises inside ∙ ap (λ (n : ℕ). span.start + n) from;
      last = h.last inside ∙ ap (λ (n : ℕ). span.start + n) to;
      ordered = h.ordered;
      before_end = h.before_end;
    }

told_at : (e : AsmFault) (fault : LineFault) (k : FaultKind) (text rest after line : List ℕ) (number : ℕ) (before : List (List ℕ)) → IsBehind text rest number before → raw_lines rest ≡ line ∷ raw_lines after
    → e.kind ≡ k → IsLocated e (span_after before line) fault → line_fault before line ≡ Some k → fault_spot fault ≡ line_place before line
    → Tells e (record { span = span_after before line; place = line_place before line; kind = k })
told_at e fault k text rest after line number before h split is located found same =
    let inside : IsInside (line_place before line) (length (without_ending line)) = line-inside before line in
    let within : (line_place before line).to ≤ length (without_ending line) = inside.within in
    tells_at e (span_after before line) fault (line_place before line) k is located same inside.ordered (omega (arith, within))

found_at : (k : FaultKind) (text rest after line : List ℕ) (number : ℕ) (before : List (List ℕ)) → IsBehind text rest number before → raw_lines rest ≡ line ∷ raw_lines after → line_fault before line ≡ Some k
    → first_pass [] (raw_lines text) ≡ Err (record { span = span_after before line; place = line_place before line; kind = k })
found_at k text rest after line number before h split found =
    sym h.same ∙ ap (first_pass before) split
    ∙ ap (λ (o : Option FaultKind). at_line (span_after before line) (line_place before line) o (first_pass (line ∷ before) (raw_lines after))) found

-- the fault of a line is the first one
pub first_at : (k : FaultKind) (e : AsmFault) (fault : LineFault) (text rest after line : List ℕ) (number : ℕ) (before : List (List ℕ)) → IsBehind text rest number before → raw_lines rest ≡ line ∷ raw_lines after
    → e.kind ≡ k → IsLocated e (span_after before line) fault → Refuses k (line_fault before line) → IsPlaced k fault (line_place before line) → IsFirst k e (first_pass [] (raw_lines text))
first_at fault.Memory e f text rest after line number before h split is located found same = tt
first_at fault.Token e f text rest after line number before h split is located found same = (_, (told_at e f _ text rest after line number before h split is located found same, found_at _ text rest after line number before h split found))
first_at fault.Mnemonic e f text rest after line number before h split is located found same = (_, (told_at e f _ text rest after line number before h split is located found same, found_at _ text rest after line number before h split found))
first_at fault.Register e f text rest after line number before h split is located found same = (_, (told_at e f _ text rest after line number before h split is located found same, found_at _ text rest after line number before h split found))
first_at fault.Range e f text rest after line number before h split is located found same = (_, (told_at e f _ text rest after line number before h split is located found same, found_at _ text rest after line number before h split found))
first_at fault.UnknownLabel e f text rest after line number before h split is located found same = (_, (told_at e f _ text rest after line number before h split is located found same, found_at _ text rest after line number before h split found))
first_at fault.DoubledLabel e f text rest after line number before h split is located found same = (_, (told_at e f _ text rest after line number before h split is located found same, found_at _ text rest after line number before h split found))
