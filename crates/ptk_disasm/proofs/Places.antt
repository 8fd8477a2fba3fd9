-- Symbols at places of a table that is in order of addresses.
use Rattle.std.proofs.Common.{◌≡◌, ◌≢◌, ◌∙◌, ⊎_elim, Bool, cond, true, false, ℕ, zero, suc, ◌+◌, ◌-◌, ◌≤◌, ◌<◌, List, [], ◌∷◌, Option, Some, None, length, get_or, refl, sym, ap, subst, arith}
use Rattle.std.specs.Prelude.{◌==◌, nat_le, nat_lt, find, IfSome}
use Rattle.std.specs.List.{All, position_or_len, slice_get}
use Rattle.std.specs.List.Sorted.{IsPartitionPoint}
use Rattle.std.proofs.lemmas.Bool.Decides.{leb_tells, nat_tests}
use Rattle.std.proofs.lemmas.List.Elements.{All-tail}
use Rattle.std.proofs.lemmas.List.Folds.{find_at}
use Rattle.std.proofs.lemmas.List.Sums.{fails_before_first, passes_at_first, position_or_len_is}
use Rattle.ptk_disasm.specs.declared.symbol_lines.Symbol.{Symbol}
use Rattle.ptk_disasm.specs.Tables.{greater_of, last_below}
use Rattle.ptk_disasm.specs.Looking.{pair, pairs, found_pair, AreInOrder}
use Rattle.ptk_disasm.proofs.Nearest.{last_at, last_is_below}

-- whether a symbol begins at an address, and whether it begins there or above
abbrev pub is_at : ℕ → Symbol → Bool
is_at a s = s.address == a

abbrev pub is_from : ℕ → Symbol → Bool
is_from a s = nat_le a s.address

-- a symbol at an address
abbrev pub some_at : ℕ → Symbol
some_at a = record { address = a; name = record { ref_ptr = (0, 0); now = [] } }

-- the place that halving finds is the first one from an address on
pub place_is : (a : ℕ) (xs : List Symbol) (i : ℕ) → i ≤ length xs → IsPartitionPoint (λ (s : Symbol). nat_lt s.address a ≡ true) (λ (s : Symbol). nat_lt s.address a ≡ false) xs i
    → i ≡ position_or_len (is_from a) xs
place_is a xs i bound point =
    let d = some_at 0 in
    sym (position_or_len_is (is_from a) xs i d bound
    (λ k l. let below : nat_lt (get_or xs k d).address a ≡ true = point.0 k d (omega arith) l in grind (arith, nat_tests))
    (λ l. let above : nat_lt (get_or xs i d).address a ≡ false = point.1 i d (omega arith) l in grind (arith, nat_tests)))

-- what stands at a place
get_within : (xs : List Symbol) (i : ℕ) (d : Symbol) → i < length xs → slice_get xs i ≡ Some (get_or xs i d)
get_within [] i d l = absurd (omega arith)
get_within (x ∷ xs) zero d l = refl
get_within (x ∷ xs) (suc i) d l = get_within xs i d (omega arith)

get_past : (xs : List Symbol) → slice_get xs (length xs) ≡ None
get_past [] = refl
get_past (x ∷ xs) = get_past xs

-- it is one thing, whatever stands past the end
abbrev address_in : Option Symbol → ℕ
address_in None = 0
address_in (Some s) = s.address

same_address : (xs : List Symbol) (i : ℕ) (d e : Symbol) → i < length xs → (get_or xs i d).address ≡ (get_or xs i e).address
same_address xs i d e l = ap address_in (sym (get_within xs i d l) ∙ get_within xs i e l)

-- at the first place from an address on stands a symbol from there on
passes_here : (a : ℕ) (xs : List Symbol) (i : ℕ) (d : Symbol) → i ≡ position_or_len (is_from a) xs → i < length xs → nat_le a (get_or xs i d).address ≡ true
passes_here a xs i d place l =
    subst (λ (j : ℕ). is_from a (get_or xs j d) ≡ true) (sym place) (passes_at_first (is_from a) xs d (subst (λ (j : ℕ). j < length xs) place l))

-- the first of the symbols as the definition has it
find_more : (s : ℕ × List ℕ) (t : Symbol) (b : Bool) (found : Option (ℕ × List ℕ)) (other : Option Symbol) → s ≡ pair t → found ≡ found_pair other
    → cond b (Some s) found ≡ found_pair (cond b (Some t) other)
find_more s t true found other same rest = ap Some same
find_more s t false found other same rest = rest

find_pairs : (a : ℕ) (xs : List Symbol) → find (λ (s : ℕ × List ℕ). s.0 == a) (pairs xs) ≡ found_pair (find (is_at a) xs)
find_pairs a [] = refl
find_pairs a (s ∷ xs) = find_more (pair s) s (s.address == a) (find (λ (t : ℕ × List ℕ). t.0 == a) (pairs xs)) (find (is_at a) xs) refl (find_pairs a xs)

-- no symbol begins at an address
missing : (a : ℕ) (xs : List Symbol) → ((k : ℕ) → k < length xs → is_at a (get_or xs k (some_at 0)) ≡ false) → find (λ (s : ℕ × List ℕ). s.0 == a) (pairs xs) ≡ None
missing a xs other =
    let past : position_or_len (is_at a) xs ≡ length xs = position_or_len_is (is_at a) xs (length xs) (some_at 0) (omega arith) other (λ l. absurd (omega arith)) in
    find_pairs a xs ∙ ap found_pair (find_at (is_at a) xs ∙ ap (slice_get xs) past ∙ get_past xs)

-- the first place from an address on is past the end
pub missing_past : (a : ℕ) (xs : List Symbol) (i : ℕ) → i ≡ position_or_len (is_from a) xs → i ≡ length xs → None ≡ find (λ (s : ℕ × List ℕ). s.0 == a) (pairs xs)
missing_past a xs i place past =
    sym (missing a xs (λ k l. let below : is_from a (get_or xs k (some_at 0)) ≡ false = fails_before_first (is_from a) xs k (some_at 0) (omega arith) in grind (arith, nat_tests)))

-- the symbol there begins at the address
pub found_here : (a : ℕ) (xs : List Symbol) (i : ℕ) (d : Symbol) → i ≡ position_or_len (is_from a) xs → i < length xs → (get_or xs i d).address ≡ a
    → Some (pair (get_or xs i d)) ≡ find (λ (s : ℕ × List ℕ). s.0 == a) (pairs xs)
found_here a xs i d place l here =
    let first : position_or_len (is_at a) xs ≡ i =
    position_or_len_is (is_at a) xs i d (omega arith)
    (λ k m. let below : is_from a (get_or xs k d) ≡ false = fails_before_first (is_from a) xs k d (omega arith) in grind (arith, nat_tests))
    (λ m. grind (arith, nat_tests)) in
    sym (find_pairs a xs ∙ ap found_pair (find_at (is_at a) xs ∙ ap (slice_get xs) first ∙ get_within xs i d l))

-- it begins above
other_below : (n a : ℕ) → nat_le a n ≡ false → (n == a) ≡ false
other_below n a below = grind (arith, nat_tests)

other_above : (n m a : ℕ) → nat_le a m ≡ true → m ≢ a → m ≤ n → (n == a) ≡ false
other_above n m a from other up = grind (arith, nat_tests)

pub missing_here : (a : ℕ) (xs : List Symbol) (i : ℕ) → AreInOrder xs → i ≡ position_or_len (is_from a) xs → i < length xs → (get_or xs i (some_at 0)).address ≢ a
    → None ≡ find (λ (s : ℕ × List ℕ). s.0 == a) (pairs xs)
missing_here a xs i order place l other =
    let d = some_at 0 in
    sym (missing a xs (λ k m. ⊎_elim
    (λ h. other_above (get_or xs k d).address (get_or xs i d).address a (passes_here a xs i d place l) other (order i k d h.1 m))
    (λ h. other_below (get_or xs k d).address a (fails_before_first (is_from a) xs k d (subst (λ (j : ℕ). k < j) place h.1)))
    (leb_tells i k)))

-- no symbol begins at or below an address
none_below : (a : ℕ) (xs : List Symbol) → All (λ (s : Symbol). nat_le s.address a ≡ false) xs → last_below a (pairs xs) ≡ None
none_below a [] above = refl
none_below a (s ∷ xs) above =
    let head : nat_le s.address a ≡ false = above 0 s (omega arith) in
    ap (λ (b : Bool). cond b (Some (greater_of (pair s) (last_below a (pairs xs)))) (last_below a (pairs xs))) head
    ∙ none_below a xs (All-tail (λ (t : Symbol). nat_le t.address a ≡ false) s xs above)

all_above : (n m a : ℕ) → nat_le (a + 1) m ≡ true → m ≤ n → nat_le n a ≡ false
all_above n m a from up = grind (arith, nat_tests)

pub last_none : (a : ℕ) (xs : List Symbol) (i : ℕ) → AreInOrder xs → i ≡ position_or_len (is_from (a + 1)) xs → i ≡ 0 → None ≡ last_below a (pairs xs)
last_none a xs i order place none =
    sym (none_below a xs (λ k d l. all_above (get_or xs k d).address (get_or xs i d).address a (passes_here (a + 1) xs i d place (omega arith)) (order i k d (omega arith) l)))

-- symbols that are below one address where they are below another
same_below : (a m : ℕ) (xs : List Symbol) → All (λ (s : Symbol). nat_le s.address a ≡ nat_le s.address m) xs → last_below a (pairs xs) ≡ last_below m (pairs xs)
same_below a m [] same = refl
same_below a m (s ∷ xs) same =
    let head : nat_le s.address a ≡ nat_le s.address m = same 0 s (omega arith) in
    ap (λ (b : Bool). cond b (Some (greater_of (pair s) (last_below a (pairs xs)))) (last_below a (pairs xs))) head
    ∙ ap (λ (o : Option (ℕ × List ℕ)). cond (nat_le s.address m) (Some (greater_of (pair s) o)) o)
    (same_below a m xs (All-tail (λ (t : Symbol). nat_le t.address a ≡ nat_le t.address m) s xs same))

-- the first symbol at the address of one in a table
not_itself : (m : ℕ) → (m == m) ≡ false → ⊥
not_itself m other = grind (arith, nat_tests)

first_there : (xs : List Symbol) (k : ℕ) (d : Symbol) → k < length xs
    → find (λ (s : ℕ × List ℕ). s.0 == (get_or xs k d).address) (pairs xs) ≡ Some (pair (get_or xs (position_or_len (is_at (get_or xs k d).address) xs) d))
first_there xs k d l =
    let m = (get_or xs k d).address in
    let i = position_or_len (is_at m) xs in
    let within : i < length xs = ⊎_elim (λ h. let up : i ≤ k = h.1 in omega arith) (λ h. absurd (not_itself m (fails_before_first (is_at m) xs k d h.1))) (leb_tells i k) in
    find_pairs m xs ∙ ap found_pair (find_at (is_at m) xs ∙ get_within xs i d within)

-- the last symbol at or below an address is the first at the address of the one before the first place above
at_most : (m a : ℕ) → nat_le (a + 1) m ≡ false → m ≤ a
at_most m a below = grind (arith, nat_tests)

both_below : (n m a : ℕ) → n ≤ m → m ≤ a → nat_le n a ≡ nat_le n m
both_below n m a low below = grind (arith, nat_tests)

both_above : (n o m a : ℕ) → nat_le (a + 1) o ≡ true → o ≤ n → m ≤ a → nat_le n a ≡ nat_le n m
both_above n o m a from up below = grind (arith, nat_tests)

pub last_before : (a : ℕ) (xs : List Symbol) (i : ℕ) (d : Symbol) → AreInOrder xs → i ≡ position_or_len (is_from (a + 1)) xs → 0 < i → i ≤ length xs
    → find (λ (s : ℕ × List ℕ). s.0 == (get_or xs (i - 1) d).address) (pairs xs) ≡ last_below a (pairs xs)
last_before a xs i d order place some bound =
    let m = (get_or xs (i - 1) d).address in
    let inside : i - 1 < length xs = omega arith in
    let before : i - 1 < i = omega arith in
    let below : m ≤ a = at_most m a (fails_before_first (is_from (a + 1)) xs (i - 1) d (subst (λ (j : ℕ). i - 1 < j) place before)) in
    let same : All (λ (s : Symbol). nat_le s.address a ≡ nat_le s.address m) xs = λ k e l. ⊎_elim
    (λ h. let up : i ≤ k = h.1 in
    both_above (get_or xs k e).address (get_or xs i e).address m a (passes_here (a + 1) xs i e place (omega arith)) (order i k e up l) below)
    (λ h. let low : k < i = h.1 in
    both_below (get_or xs k e).address m a
    (subst (λ (n : ℕ). (get_or xs k e).address ≤ n) (same_address xs (i - 1) e d inside) (order k (i - 1) e (omega arith) inside)) below)
    (leb_tells i k) in
    let found = first_there xs (i - 1) d inside in
    found ∙ sym (last_at m (pairs xs) _ found) ∙ sym (same_below a m xs same)

-- what is found at or below an address is not above it
pub found_below : (a : ℕ) (xs : List (ℕ × List ℕ)) (found : Option Symbol) → found_pair found ≡ last_below a xs → IfSome found (λ (s : Symbol). s.address ≤ a)
found_below a xs None is = tt
found_below a xs (Some s) is =
    let below : IfSome (Some (pair s)) (λ (t : ℕ × List ℕ). t.0 ≤ a) = subst (λ (o : Option (ℕ × List ℕ)). IfSome o (λ (t : ℕ × List ℕ). t.0 ≤ a)) (sym is) (last_is_below a xs) in
    below

-- symbols are none where there are none of the definition's
not_none : (n : ℕ) → (suc n == 0) ≡ true → ⊥
not_none n none = grind (arith, nat_tests)

pub none_of : (xs : List Symbol) → (length xs == 0) ≡ true → pairs xs ≡ []
none_of [] is = refl
none_of (x ∷ xs) is = absurd (not_none (length xs) is)

pub none_to : (xs : List Symbol) → pairs xs ≡ [] → (length xs == 0) ≡ true
none_to [] is = refl
none_to (x ∷ xs) is = absurd (cc)
