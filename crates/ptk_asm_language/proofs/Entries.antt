-- The entry of a name in a table of the code, one after the other.
use Rattle.std.proofs.Common.{Bor, ◌≡◌, ℕ, ◌+◌, ◌<◌, ◌≤◌, List, ◌∷◌, true, false, Option, Some, None, length, drop, get_or, map, refl, sym, ◌∙◌}
use Rattle.std.proofs.lemmas.List.{at_drop_all, at_drop_more}
use Rattle.std.specs.Str.{bytes_eq}
use Rattle.ptk_asm_language.specs.Statements.{named}

named-here : {A : Type 0} (e : List ℕ × A) (es : List (List ℕ × A)) (name : List ℕ) → bytes_eq e.0 name ≡ true → named (e ∷ es) name ≡ Some e.1
named-here e es name is = rw is refl

named-later : {A : Type 0} (e : List ℕ × A) (es : List (List ℕ × A)) (name : List ℕ) → bytes_eq e.0 name ≡ false → named (e ∷ es) name ≡ named es name
named-later e es name is = rw is refl

left : {A : Type 0} (table : List (Bor (List ℕ) × A)) (i : ℕ) (d : Bor (List ℕ) × A) (name : List ℕ) → i < length table → d ≡ get_or table i d
    → named (map (λ e. (e.0.now, e.1)) (drop i table)) name ≡ named ((d.0.now, d.1) ∷ map (λ e. (e.0.now, e.1)) (drop (i + 1) table)) name
left {A = A} table i d name inside at =
    let step : named (map (λ e. (e.0.now, e.1)) (drop i table)) name ≡ named (map (λ e. (e.0.now, e.1)) (get_or table i d ∷ drop (i + 1) table)) name =
    at_drop_more (λ (es : List (Bor (List ℕ) × A)). named (map (λ e. (e.0.now, e.1)) es) name) table i d inside in
    rw (← at) at step

-- the entry has the name
pub named-found : {A : Type 0} (table : List (Bor (List ℕ) × A)) (i : ℕ) (d : Bor (List ℕ) × A) (name : List ℕ) (whole : Option A)
    → i < length table → d ≡ get_or table i d → bytes_eq d.0.now name ≡ true
    → named (map (λ e. (e.0.now, e.1)) (drop i table)) name ≡ whole → whole ≡ Some d.1
named-found table i d name whole inside at is so_far = sym so_far ∙ left table i d name inside at ∙ named-here (d.0.now, d.1) _ name is

-- the entry has another name
pub named-passed : {A : Type 0} (table : List (Bor (List ℕ) × A)) (i : ℕ) (d : Bor (List ℕ) × A) (name : List ℕ) (whole : Option A)
    → i < length table → d ≡ get_or table i d → bytes_eq d.0.now name ≡ false
    → named (map (λ e. (e.0.now, e.1)) (drop i table)) name ≡ whole → named (map (λ e. (e.0.now, e.1)) (drop (i + 1) table)) name ≡ whole
named-passed table i d name whole inside at is so_far = sym (named-later (d.0.now, d.1) _ name is) ∙ sym (left table i d name inside at) ∙ so_far

-- no entry is left
pub named-none : {A : Type 0} (table : List (Bor (List ℕ) × A)) (i : ℕ) (name : List ℕ) (whole : Option A)
    → length table ≤ i → named (map (λ e. (e.0.now, e.1)) (drop i table)) name ≡ whole → whole ≡ None
named-none {A = A} table i name whole past so_far =
    sym so_far ∙ at_drop_all (λ (es : List (Bor (List ℕ) × A)). named (map (λ e. (e.0.now, e.1)) es) name) table i past

pub ruleset entries = (named-found, named-passed, named-none)
