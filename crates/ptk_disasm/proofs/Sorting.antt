-- What a stable sort by addresses keeps.
use Rattle.std.proofs.Common.{◌≡◌, ◌∙◌, Bool, cond, true, false, not, nat_cmp, ℕ, List, [], ◌∷◌, Option, Some, None, refl, sym, ap, arith}
use Rattle.std.specs.Prelude.{◌==◌, ◌&&◌, nat_lt, find, filter}
use Rattle.std.specs.List.Sorted.{IsStableByKey, ties}
use Rattle.std.specs.Ordering.{is_lt}
use Rattle.std.specs.declared.cmp.Ordering.TheVariants.{Less, Equal, Greater}
use Rattle.std.proofs.lemmas.Bool.Decides.{nat_tests}
use Rattle.ptk_disasm.specs.declared.symbol_lines.Symbol.{Symbol}
use Rattle.ptk_disasm.specs.Looking.{pair, pairs, found_pair}

-- whether a symbol stands after another in order of addresses
abbrev is_before : Symbol → Symbol → Bool
is_before s t = is_lt (nat_cmp s.address t.address)

-- the first of a list
abbrev first_of : List Symbol → Option Symbol
first_of [] = None
first_of (s ∷ symbols) = Some s

-- two symbols tie where they begin at one address
less_is : (b c : Bool) → is_lt (cond b Less (cond c Equal Greater)) ≡ b
less_is true c = refl
less_is false true = refl
less_is false false = refl

neither_less : (x y : ℕ) → (not (nat_lt x y) && not (nat_lt y x)) ≡ (y == x)
neither_less x y = grind (arith, nat_tests)

ties_at : (x y : ℕ) → (not (is_lt (nat_cmp x y)) && not (is_lt (nat_cmp y x))) ≡ (y == x)
ties_at x y =
    ap (λ (b : Bool). not b && not (is_lt (nat_cmp y x))) (less_is (nat_lt x y) (x == y)) ∙ ap (λ (b : Bool). not (nat_lt x y) && not b) (less_is (nat_lt y x) (y == x))
    ∙ neither_less x y

-- the first symbol at an address is the first that ties with one there
tie_more : (s : Symbol) (b : Bool) (found : Option (ℕ × List ℕ)) (tied : List Symbol) → found ≡ found_pair (first_of tied)
    → cond b (Some (pair s)) found ≡ found_pair (first_of (cond b (s ∷ tied) tied))
tie_more s true found tied rest = refl
tie_more s false found tied rest = rest

first_tie : (t : Symbol) (xs : List Symbol) → find (λ (s : ℕ × List ℕ). s.0 == t.address) (pairs xs) ≡ found_pair (first_of (filter (ties is_before t) xs))
first_tie t [] = refl
first_tie t (s ∷ xs) =
    let tied = filter (ties is_before t) xs in
    tie_more s (s.address == t.address) (find (λ (u : ℕ × List ℕ). u.0 == t.address) (pairs xs)) tied (first_tie t xs)
    ∙ ap (λ (b : Bool). found_pair (first_of (cond b (s ∷ tied) tied))) (sym (ties_at t.address s.address))

-- the first symbol at each address stays
pub first_stays : (xs ys : List Symbol) → IsStableByKey (λ (s : Symbol). s.address) nat_cmp xs ys → (a : ℕ) → find (λ (s : ℕ × List ℕ). s.0 == a) (pairs ys) ≡ find (λ (s : ℕ × List ℕ). s.0 == a) (pairs xs)
first_stays xs ys stable a =
    let t : Symbol = record { address = a; name = record { ref_ptr = (0, 0); now = [] } } in
    first_tie t ys ∙ ap (λ (ss : List Symbol). found_pair (first_of ss)) (stable t) ∙ sym (first_tie t xs)
