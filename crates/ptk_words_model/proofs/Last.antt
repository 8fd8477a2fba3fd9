-- The last elements of a list.
use Rattle.std.proofs.Common.{◌≡◌, ℕ, ◌+◌, ◌-◌, List, ◌++◌, length, take, drop, sym, ap, ◌∙◌, arith, append_assoc, length-append, length-take, length-drop}
use Rattle.std.proofs.Math.Seq.{drop-append-add}
use Rattle.std.proofs.lemmas.List.{take-append-drop}
use Rattle.ptk_words_model.specs.Run.{last_of}

-- what is kept of a list and more is what is kept of all
pub last_more : {A : Type 0} (count : ℕ) (xs ys : List A) → last_of count (last_of count xs ++ ys) ≡ last_of count (xs ++ ys)
last_more {A = A} count xs ys =
    let d : ℕ = length xs - count in
    let kept : List A = drop d xs ++ ys in
    let whole : xs ++ ys ≡ take d xs ++ kept = ap (λ (zs : List A). zs ++ ys) (sym (take-append-drop d xs)) ∙ append_assoc (take d xs) (drop d xs) ys in
    let front : length (take d xs) ≡ d = omega (arith, length-take d xs) in
    let rest : length kept ≡ length xs - d + length ys = omega (arith, length-append (drop d xs) ys, length-drop d xs) in
    let at : length (xs ++ ys) - count ≡ length (take d xs) + (length kept - count) = omega (arith, front, rest, length-append xs ys) in
    sym (ap (λ (n : ℕ). drop n (xs ++ ys)) at ∙ (ap (drop (length (take d xs) + (length kept - count))) whole ∙ drop-append-add (take d xs) kept (length kept - count)))
