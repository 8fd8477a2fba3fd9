-- The last elements of a list.
use Rattle.std.proofs.Common.{◌≡◌, ℕ, zero, suc, ◌+◌, ◌-◌, ◌≤◌, List, [], ◌++◌, length, drop, refl, sym, ap, ◌∙◌, arith, length-drop}
use Rattle.std.proofs.lemmas.List.{drop-drop}
use Rattle.ptk_words_model.specs.Run.{last_of}
use Rattle.ptk_words_model.proofs.Last.{last_more}

drop-none : {A : Type 0} (n : ℕ) → ◌≡◌ {A = List A} (drop n []) []
drop-none zero = refl
drop-none (suc n) = refl

-- the last of no elements are none
pub last-none : {A : Type 0} (count : ℕ) → ◌≡◌ {A = List A} (last_of {A = A} count []) []
last-none {A = A} count = drop-none {A = A} (length {A = A} [] - count)

-- the last of the last ones are the last
pub last-last : {A : Type 0} (few many : ℕ) (xs : List A) → few ≤ many → last_of few (last_of many xs) ≡ last_of few xs
last-last few many xs le =
    let front : ℕ = length xs - many in
    drop-drop (length (drop front xs) - few) front xs
    ∙ ap (λ (k : ℕ). drop k xs) (omega (arith, length-drop front xs, le))

-- the few last of the many last of a list and more, where the few last of the list are known
pub last_both : {A : Type 0} (few many : ℕ) (short long more : List A) → few ≤ many → short ≡ last_of few long → last_of few (short ++ more) ≡ last_of few (last_of many (long ++ more))
last_both {A = A} few many short long more le is =
    ap (λ (xs : List A). last_of few (xs ++ more)) is ∙ (last_more few long more ∙ sym (last-last few many (long ++ more) le))
