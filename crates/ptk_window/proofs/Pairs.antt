-- A walk over a list from an index on.
use Rattle.std.proofs.Common.{◌≡◌, ℕ, ◌+◌, ◌<◌, ◌≤◌, Bool, true, false, ◌||◌, List, [], ◌∷◌, length, drop, map, get_or, Option, Some, None, refl, sym, ap, ◌∙◌}
use Rattle.std.specs.Option.{option_or}
use Rattle.std.specs.List.{list_any}
use Rattle.std.proofs.lemmas.List.{drop_all}
use Rattle.ptk_words.proofs.Lists.{drop-at}
use Rattle.ptk_words_model.specs.WindowFaults.{some_pair, first_fault}

-- no pair so far, and none with this one first
pub some_pair-more : {A : Type 0} (r : A → A → Bool) (xs : List A) (i : ℕ) (x : A) (whole : Bool)
    → i < length xs → x ≡ get_or xs i x → list_any (r x) (drop (i + 1) xs) ≡ false → some_pair r (drop i xs) ≡ whole → some_pair r (drop (i + 1) xs) ≡ whole
some_pair-more r xs i x whole within is none so_far =
    let step : some_pair r (drop i xs) ≡ some_pair r (drop (i + 1) xs) = rw (drop-at xs i x within is, none) in sym step ∙ so_far

pub some_pair-found : {A : Type 0} (r : A → A → Bool) (xs : List A) (i : ℕ) (x : A) (whole : Bool)
    → i < length xs → x ≡ get_or xs i x → list_any (r x) (drop (i + 1) xs) ≡ true → some_pair r (drop i xs) ≡ whole → whole ≡ true
some_pair-found r xs i x whole within is found so_far =
    let step : some_pair r (drop i xs) ≡ true = rw (drop-at xs i x within is, found) in sym so_far ∙ step

pub some_pair-end : {A : Type 0} (r : A → A → Bool) (xs : List A) (i : ℕ) (whole : Bool)
    → length xs ≤ i → some_pair r (drop i xs) ≡ whole → whole ≡ false
some_pair-end r xs i whole past so_far =
    let step : some_pair r (drop i xs) ≡ false = rw (drop_all i xs past) in sym so_far ∙ step

pub first_fault-more : {A E : Type 0} (f : A → Option E) (xs : List A) (i : ℕ) (x : A) (whole : Option E)
    → i < length xs → x ≡ get_or xs i x → f x ≡ None → first_fault f (drop i xs) ≡ whole → first_fault f (drop (i + 1) xs) ≡ whole
first_fault-more f xs i x whole within is none so_far =
    let step : first_fault f (drop i xs) ≡ first_fault f (drop (i + 1) xs) = rw (drop-at xs i x within is, none) in sym step ∙ so_far

pub first_fault-found : {A E : Type 0} (f : A → Option E) (xs : List A) (i : ℕ) (x : A) (e : E) (whole : Option E)
    → i < length xs → x ≡ get_or xs i x → f x ≡ Some e → first_fault f (drop i xs) ≡ whole → whole ≡ Some e
first_fault-found f xs i x e whole within is found so_far =
    let step : first_fault f (drop i xs) ≡ Some e = rw (drop-at xs i x within is, found) in sym so_far ∙ step

pub first_fault-end : {A E : Type 0} (f : A → Option E) (xs : List A) (i : ℕ) (whole : Option E)
    → length xs ≤ i → first_fault f (drop i xs) ≡ whole → whole ≡ None
first_fault-end f xs i whole past so_far =
    let step : first_fault f (drop i xs) ≡ None = rw (drop_all i xs past) in sym so_far ∙ step

pub ruleset pairs = (some_pair-more, some_pair-found, some_pair-end, first_fault-more, first_fault-found, first_fault-end)

-- ---- over what a map gives
list_any-map : {A B : Type 0} (test : B → Bool) (f : A → B) (xs : List A) → list_any test (map f xs) ≡ list_any (λ x. test (f x)) xs
list_any-map test f [] = refl
list_any-map test f (x ∷ xs) = ap (λ (b : Bool). test (f x) || b) (list_any-map test f xs)

pub some_pair-map : {A B : Type 0} (r : B → B → Bool) (f : A → B) (xs : List A) → some_pair r (map f xs) ≡ some_pair (λ x y. r (f x) (f y)) xs
some_pair-map r f [] = refl
some_pair-map r f (x ∷ xs) =
    ap (λ (b : Bool). b || some_pair r (map f xs)) (list_any-map (r (f x)) f xs)
    ∙ ap (λ (b : Bool). list_any (λ y. r (f x) (f y)) xs || b) (some_pair-map r f xs)

pub first_fault-map : {A B E : Type 0} (g : B → Option E) (f : A → B) (xs : List A) → first_fault g (map f xs) ≡ first_fault (λ x. g (f x)) xs
first_fault-map g f [] = refl
first_fault-map {E = E} g f (x ∷ xs) = ap (λ (o : Option E). option_or (g (f x)) o) (first_fault-map g f xs)

pub ruleset mapped = (some_pair-map, first_fault-map)
