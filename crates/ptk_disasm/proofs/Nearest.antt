-- The last symbol at or below an address, by the first symbols at addresses.
use Rattle.std.proofs.Common.{◌≡◌, ◌∙◌, Bool, cond, ℕ, zero, suc, ◌≤◌, List, [], ◌∷◌, Option, Some, None, refl, sym, ap, arith}
use Rattle.std.specs.Prelude.{◌==◌, nat_le, find, if◌then◌else◌, IfSome}
use Rattle.std.proofs.lemmas.Bool.{eq-eqb}
use Rattle.std.proofs.lemmas.Bool.Decides.{nat_tests}
use Rattle.std.proofs.lemmas.Option.{none-some}
use Rattle.ptk_disasm.specs.Tables.{greater_of, last_below}

-- a symbol, or else another one
abbrev or_else : Option (ℕ × List ℕ) → Option (ℕ × List ℕ) → Option (ℕ × List ℕ)
or_else None other = other
or_else (Some s) other = Some s

-- the first symbol at an address
abbrev first_at : ℕ → List (ℕ × List ℕ) → Option (ℕ × List ℕ)
first_at a symbols = find (λ (s : ℕ × List ℕ). s.0 == a) symbols

-- it begins there
at_more : (a : ℕ) (s : ℕ × List ℕ) (found : Option (ℕ × List ℕ)) → IfSome found (λ (t : ℕ × List ℕ). t.0 ≡ a)
    → IfSome (if s.0 == a then Some s else found) (λ (t : ℕ × List ℕ). t.0 ≡ a)
at_more a s None is = grind (arith, nat_tests)
at_more a s (Some t) is = grind (arith, nat_tests)

pub first_is_at : (a : ℕ) (symbols : List (ℕ × List ℕ)) → IfSome (first_at a symbols) (λ (t : ℕ × List ℕ). t.0 ≡ a)
first_is_at a [] = tt
first_is_at a (s ∷ symbols) = at_more a s (first_at a symbols) (first_is_at a symbols)

-- the last symbol at or below an address is not above it
below_more : (a : ℕ) (s : ℕ × List ℕ) (best : Option (ℕ × List ℕ)) → IfSome best (λ (t : ℕ × List ℕ). t.0 ≤ a)
    → IfSome (if nat_le s.0 a then Some (greater_of s best) else best) (λ (t : ℕ × List ℕ). t.0 ≤ a)
below_more a s None below = grind (arith, nat_tests)
below_more a s (Some t) below = grind (arith, nat_tests)

pub last_is_below : (a : ℕ) (symbols : List (ℕ × List ℕ)) → IfSome (last_below a symbols) (λ (t : ℕ × List ℕ). t.0 ≤ a)
last_is_below a [] = tt
last_is_below a (s ∷ symbols) = below_more a s (last_below a symbols) (last_is_below a symbols)

-- at address 0 it is the first there
zero_more : (s : ℕ × List ℕ) (found : Option (ℕ × List ℕ)) → IfSome found (λ (t : ℕ × List ℕ). t.0 ≡ 0)
    → (if nat_le s.0 0 then Some (greater_of s found) else found) ≡ (if s.0 == 0 then Some s else found)
zero_more s None is = grind (arith, nat_tests)
zero_more s (Some t) is = grind (arith, nat_tests)

last_at_zero : (symbols : List (ℕ × List ℕ)) → last_below 0 symbols ≡ first_at 0 symbols
last_at_zero [] = refl
last_at_zero (s ∷ symbols) =
    ap (λ (b : Option (ℕ × List ℕ)). if nat_le s.0 0 then Some (greater_of s b) else b) (last_at_zero symbols) ∙ zero_more s (first_at 0 symbols) (first_is_at 0 symbols)

-- at the next address it is the first there, or else the last one below
next_more : (a : ℕ) (s : ℕ × List ℕ) (found best : Option (ℕ × List ℕ)) → IfSome found (λ (t : ℕ × List ℕ). t.0 ≡ suc a) → IfSome best (λ (t : ℕ × List ℕ). t.0 ≤ a)
    → (if nat_le s.0 (suc a) then Some (greater_of s (or_else found best)) else or_else found best)
    ≡ or_else (if s.0 == suc a then Some s else found) (if nat_le s.0 a then Some (greater_of s best) else best)
next_more a s None None at below = grind (arith, nat_tests)
next_more a s None (Some u) at below = grind (arith, nat_tests)
next_more a s (Some t) None at below = grind (arith, nat_tests)
next_more a s (Some t) (Some u) at below = grind (arith, nat_tests)

last_at_next : (a : ℕ) (symbols : List (ℕ × List ℕ)) → last_below (suc a) symbols ≡ or_else (first_at (suc a) symbols) (last_below a symbols)
last_at_next a [] = refl
last_at_next a (s ∷ symbols) =
    ap (λ (b : Option (ℕ × List ℕ)). if nat_le s.0 (suc a) then Some (greater_of s b) else b) (last_at_next a symbols)
    ∙ next_more a s (first_at (suc a) symbols) (last_below a symbols) (first_is_at (suc a) symbols) (last_is_below a symbols)

-- tables with the same first symbol at each address have the same last one at or below an address
pub last_same : (a : ℕ) (xs ys : List (ℕ × List ℕ)) → ((u : ℕ) → find (λ (s : ℕ × List ℕ). s.0 == u) xs ≡ find (λ (s : ℕ × List ℕ). s.0 == u) ys) → last_below a xs ≡ last_below a ys
last_same zero xs ys same = last_at_zero xs ∙ same 0 ∙ sym (last_at_zero ys)
last_same (suc a) xs ys same =
    last_at_next a xs ∙ ap (λ (o : Option (ℕ × List ℕ)). or_else o (last_below a xs)) (same (suc a))
    ∙ ap (or_else (first_at (suc a) ys)) (last_same a xs ys same) ∙ sym (last_at_next a ys)

-- the first symbol at an address is the last one at or below it
pub last_at : (m : ℕ) (xs : List (ℕ × List ℕ)) (t : ℕ × List ℕ) → find (λ (s : ℕ × List ℕ). s.0 == m) xs ≡ Some t → last_below m xs ≡ Some t
last_at zero xs t found = last_at_zero xs ∙ found
last_at (suc m) xs t found = last_at_next m xs ∙ ap (λ (o : Option (ℕ × List ℕ)). or_else o (last_below m xs)) found

-- tables with the same first symbols are empty alike
pub none_same : (xs ys : List (ℕ × List ℕ)) → ((u : ℕ) → find (λ (s : ℕ × List ℕ). s.0 == u) xs ≡ find (λ (s : ℕ × List ℕ). s.0 == u) ys) → xs ≡ [] → ys ≡ []
none_same xs [] same none = refl
none_same xs (y ∷ ys) same none =
    let here : first_at y.0 (y ∷ ys) ≡ Some y = ap (λ (b : Bool). cond b (Some y) (first_at y.0 ys)) (eq-eqb y.0 y.0 refl) in
    absurd (none-some y (sym (ap (first_at y.0) none) ∙ same y.0 ∙ here))
