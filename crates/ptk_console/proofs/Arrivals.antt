-- Taking input bytes one by one, in place of all that come at a tick: what a loop over `next_arrival` keeps.
use Rattle.std.proofs.Common.{◌≡◌, ◌∙◌, ◌+◌, ℕ, Bool, true, false, List, [], ◌∷◌, length, length-append, take, drop, refl, sym, ap, cond}
use Rattle.std.specs.List.{take_while}
use Rattle.std.proofs.lemmas.List.{drop-drop, take-append-drop}
use Rattle.std.proofs.lemmas.List.Sums.{take_while-cons}
use Rattle.ptk_words.specs.declared.sections.Arrival.{Arrival}
use Rattle.ptk_words_model.specs.State.{Console}
use Rattle.ptk_words_model.specs.Console.{arriving, is_due_at, without_arriving}
use Rattle.ptk_console.specs.ConsoleTable.{without_next}

-- the elements that pass, by the first of them
passing_rest : (p : Arrival → Bool) (xs : List Arrival) → take_while p (drop (length (take 1 (take_while p xs))) xs) ≡ drop 1 (take_while p xs)
passing_rest p [] = refl
passing_rest p (x ∷ xs) =
    let P : List Arrival → Type 0 = λ ys. take_while p (drop (length (take 1 ys)) (x ∷ xs)) ≡ drop 1 ys in
    let M : Bool → Type 0 = λ b. p x ≡ b → P (cond b (x ∷ take_while p xs) []) in
    let cases : P (cond (p x) (x ∷ take_while p xs) []) =
    elim (p x) as M [ true ↦ λ (e : p x ≡ true). refl | false ↦ λ (e : p x ≡ false). take_while-cons p x xs ∙ ap (λ (b : Bool). cond b (x ∷ take_while p xs) []) e ] refl
    in
    rw take_while-cons cases

-- once the next byte is taken, the others that come at the tick are left
pub arriving-without_next : (tick : ℕ) (console : Console) → arriving tick (without_next tick console) ≡ drop 1 (arriving tick console)
arriving-without_next tick console = passing_rest (is_due_at tick) console.coming

parted : (xs : List Arrival) → length (take 1 xs) + length (drop 1 xs) ≡ length xs
parted xs = sym (length-append (take 1 xs) (drop 1 xs)) ∙ ap (λ (ys : List Arrival). length ys) (take-append-drop 1 xs)

-- and once all are taken, it does not matter that it was taken first
pub without_arriving-without_next : (tick : ℕ) (console : Console) → without_arriving tick (without_next tick console) ≡ without_arriving tick console
without_arriving-without_next tick console =
    let come : List Arrival = arriving tick console in
    let left : List Arrival = drop (length (take 1 come)) console.coming in
    let same : drop (length (arriving tick (without_next tick console))) left ≡ drop (length come) console.coming =
    ap (λ (xs : List Arrival). drop (length xs) left) (arriving-without_next tick console)
    ∙ drop-drop (length (drop 1 come)) (length (take 1 come)) console.coming
    ∙ ap (λ (n : ℕ). drop n console.coming) (parted come)
    in
    ap (λ (xs : List Arrival). record console { coming = xs }) same
