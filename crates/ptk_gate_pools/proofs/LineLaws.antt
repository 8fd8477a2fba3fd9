-- The choice of a line: None of an empty one alone.
use Rattle.std.proofs.Common.{arith, ◌≡◌, ℕ, Bool, true, false, List, [], ◌∷◌, length, refl, sym, ◌∙◌, ap, cond, ◌⊎◌, inl, inr}
use Rattle.std.specs.Prelude.{Option, Some, is_some, nat_lt, find, fold, max, ◌==◌}
use Rattle.std.proofs.lemmas.Bool.{false≢true, eq-eqb, lt-ltb}
use Rattle.ptk_words.specs.Pools.{first_of_greatest}
use Rattle.ptk_words.proofs.Options.{max_cases}

found_first : (t : ℕ) (o : Option ℕ) (b : Bool) → b ≡ true → is_some (cond b (Some t) o) ≡ true
found_first t o true e = refl
found_first t o false e = absurd (false≢true e)

found_later : (t : ℕ) (o : Option ℕ) (b : Bool) → is_some o ≡ true → is_some (cond b (Some t) o) ≡ true
found_later t o true e = refl
found_later t o false e = e

-- the greatest so far, or that of one that is found
reached : (rank : ℕ → ℕ) (most : ℕ) (ts : List ℕ) → (fold (λ m k. max m (rank k)) most ts ≡ most) ⊎ (is_some (find (λ k. rank k == fold (λ m k. max m (rank k)) most ts) ts) ≡ true)
reached rank most [] = inl refl
reached rank most (t ∷ ts) =
    let all : ℕ = fold (λ m k. max m (rank k)) (max most (rank t)) ts in
    elim (reached rank (max most (rank t)) ts) [
      | inl e ↦ elim (max_cases most (rank t)) [
        | inl old ↦ inl (e ∙ old)
        | inr new ↦ inr (found_first t (find (λ k. rank k == all) ts) (rank t == all) (eq-eqb (rank t) all (sym (e ∙ new))))
      ]
      | inr found ↦ inr (found_later t (find (λ k. rank k == all) ts) (rank t == all) found)
    ]

chosen : (rank : ℕ → ℕ) (t : ℕ) (ts : List ℕ) → is_some (first_of_greatest rank (t ∷ ts)) ≡ true
chosen rank t ts =
    let all : ℕ = fold (λ m k. max m (rank k)) (max 0 (rank t)) ts in
    let from : max 0 (rank t) ≡ rank t = omega arith in
    elim (reached rank (max 0 (rank t)) ts) [
      | inl e ↦ found_first t (find (λ k. rank k == all) ts) (rank t == all) (eq-eqb (rank t) all (sym (e ∙ from)))
      | inr found ↦ found_later t (find (λ k. rank k == all) ts) (rank t == all) found
    ]

first_some : (rank : ℕ → ℕ) (ts : List ℕ) → is_some (first_of_greatest rank ts) ≡ nat_lt 0 (length ts)
first_some rank [] = refl
first_some rank (t ∷ ts) = chosen rank t ts ∙ sym (lt-ltb 0 (length (t ∷ ts)) (omega arith))

pub ready_seen : (o : Option ℕ) (b : Bool) (rank : ℕ → ℕ) (ts : List ℕ) → o ≡ first_of_greatest rank ts → b ≡ is_some o → b ≡ nat_lt 0 (length ts)
ready_seen o b rank ts e seen = seen ∙ ap is_some e ∙ first_some rank ts
