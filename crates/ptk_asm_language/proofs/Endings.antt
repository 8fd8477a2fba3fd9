-- The end of a line.
use Rattle.std.proofs.Common.{◌≡◌, ℕ, ◌-◌, ◌≤◌, false, List, [], ◌∷◌, length, take, get_or, refl, ap, arith, zero, suc, ◌==◌}
use Rattle.std.proofs.lemmas.Bool.Decides.{nat_tests}
use Rattle.ptk_asm_language.specs.Lines.{without_ending, without_comment}

-- the last character, in a line of n + 2
abbrev at_end : ℕ → List ℕ → ℕ
at_end n s = get_or s n 0

crlf : (n : ℕ) (s : List ℕ) → length s ≡ suc (suc n) → at_end (suc n) s ≡ 10 → at_end n s ≡ 13 → without_ending s ≡ take n s
crlf n [] h e f = cc
crlf n (c ∷ []) h e f = absurd (omega arith)
crlf zero (c ∷ d ∷ []) h e f = simp (e, f)
crlf (suc n) (c ∷ d ∷ []) h e f = absurd (omega arith)
crlf zero (c ∷ d ∷ x ∷ cs) h e f = absurd (omega arith)
crlf (suc n) (c ∷ d ∷ x ∷ cs) h e f = ap (λ t. c ∷ t) (crlf n (d ∷ x ∷ cs) (omega arith) e f)

lf : (n : ℕ) (s : List ℕ) → length s ≡ suc (suc n) → at_end (suc n) s ≡ 10 → (at_end n s == 13) ≡ false → without_ending s ≡ take (suc n) s
lf n [] h e f = cc
lf n (c ∷ []) h e f = absurd (omega arith)
lf zero (c ∷ d ∷ []) h e f = simp (e, f)
lf (suc n) (c ∷ d ∷ []) h e f = absurd (omega arith)
lf zero (c ∷ d ∷ x ∷ cs) h e f = absurd (omega arith)
lf (suc n) (c ∷ d ∷ x ∷ cs) h e f = ap (λ t. c ∷ t) (lf n (d ∷ x ∷ cs) (omega arith) e f)

none : (n : ℕ) (s : List ℕ) → length s ≡ suc n → (at_end n s == 10) ≡ false → without_ending s ≡ s
none n [] h e = refl
none zero (c ∷ []) h e = simp e
none (suc n) (c ∷ []) h e = absurd (omega arith)
none zero (c ∷ d ∷ cs) h e = absurd (omega arith)
none (suc zero) (c ∷ d ∷ []) h e = simp e
none (suc (suc n)) (c ∷ d ∷ []) h e = absurd (omega arith)
none (suc n) (c ∷ d ∷ x ∷ cs) h e = ap (λ t. c ∷ t) (none n (d ∷ x ∷ cs) (omega arith) e)

pub ending_crlf : (s : List ℕ) → 2 ≤ length s → get_or s (length s - 1) 0 ≡ 10 → get_or s (length s - 2) 0 ≡ 13 → without_ending s ≡ take (length s - 2) s
ending_crlf s h e f =
    let k : length s - 1 ≡ suc (length s - 2) = omega arith in
    crlf (length s - 2) s (omega arith) (rw k at e) f

lf_at : (n : ℕ) (s : List ℕ) → length s ≡ suc (suc n) → get_or s (length s - 1) 0 ≡ 10 → (2 ≤ length s → get_or s (length s - 2) 0 ≡ 13 → ⊥) → without_ending s ≡ take (length s - 1) s
lf_at n s h e f =
    let k : length s - 1 ≡ suc n = omega arith in
    let m : length s - 2 ≡ n = omega arith in
    let g : get_or s n 0 ≡ 13 → ⊥ = λ x. f (omega arith) (rw m x) in
    let test : (get_or s n 0 == 13) ≡ false = grind (arith, nat_tests) in
    rw k (lf n s h (rw k at e) test)

pub ending_lf : (s : List ℕ) → 1 ≤ length s → get_or s (length s - 1) 0 ≡ 10 → (2 ≤ length s → get_or s (length s - 2) 0 ≡ 13 → ⊥) → without_ending s ≡ take (length s - 1) s
ending_lf [] h e f = absurd (omega arith)
ending_lf (c ∷ []) h e f = simp e
ending_lf (c ∷ d ∷ cs) h e f = lf_at (length cs) (c ∷ d ∷ cs) refl e f

none_at : (n : ℕ) (s : List ℕ) → length s ≡ suc n → (1 ≤ length s → get_or s (length s - 1) 0 ≡ 10 → ⊥) → without_ending s ≡ s
none_at n s h e =
    let k : length s - 1 ≡ n = omega arith in
    let g : get_or s n 0 ≡ 10 → ⊥ = λ x. e (omega arith) (rw k x) in
    let test : (get_or s n 0 == 10) ≡ false = grind (arith, nat_tests) in
    none n s h test

pub ending_none : (s : List ℕ) → (1 ≤ length s → get_or s (length s - 1) 0 ≡ 10 → ⊥) → without_ending s ≡ s
ending_none [] e = refl
ending_none (c ∷ cs) e = none_at (length cs) (c ∷ cs) refl e

take_cut : (n : ℕ) (xs : List ℕ) → take (length (take n xs)) xs ≡ take n xs
take_cut zero xs = refl
take_cut (suc n) [] = refl
take_cut (suc n) (x ∷ xs) = ap (λ t. x ∷ t) (take_cut n xs)

pub comment_cut : (line : List ℕ) → take (length (without_comment line)) line ≡ without_comment line
comment_cut line = take_cut _ line
