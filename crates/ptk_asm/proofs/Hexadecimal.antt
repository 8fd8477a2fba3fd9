-- A number to base 16 in a text.
use Rattle.std.proofs.Common.{◌≡◌, ℕ, ◌-◌, List, [], ◌++◌, length, replicate, ap, subst, Option, Some, ◌∙◌, arith, false, ◌^◌}
use Rattle.std.specs.Prelude.{option_map}
use Rattle.std.specs.Fmt.{digits, padded_integral, format_spec, char_count, AppendsText}
use Rattle.std.proofs.lemmas.List.{append-nil}
use Rattle.ptk_asm.specs.Symbols.{padded_hex}

-- what `{:08x}` writes
pub hex-eight : (n : ℕ) → padded_integral (format_spec 32 0 4 8 (2 ^ 64 - 1)) false [] (digits 16 false n) ≡ padded_hex n
unfolding padded_integral char_count
hex-eight n =
    let same : 8 - length (digits 16 false n) - 0 - 0 ≡ 8 - length (digits 16 false n) = omega arith in
    ap (λ (k : ℕ). replicate k 48 ++ (digits 16 false n ++ [])) same
    ∙ ap (λ (t : List ℕ). replicate (8 - length (digits 16 false n)) 48 ++ t) (append-nil (digits 16 false n))

-- a text that gained what a shape makes of digits
pub shape-appended : {S : Type 0} (s t : S) (shape : S → List ℕ → List ℕ) (o : Option (List ℕ)) (ds shown old new : List ℕ) → s ≡ t → o ≡ Some ds → shape t ds ≡ shown
    → AppendsText old new (option_map (shape s) o) → new ≡ old ++ shown
shape-appended s t shape o ds shown old new e f g h =
    let same : option_map (shape s) o ≡ Some shown = ap (λ x. option_map (shape x) o) e ∙ ap (option_map (shape t)) f ∙ ap (λ (x : List ℕ). Some x) g in
    subst (AppendsText old new) same h
