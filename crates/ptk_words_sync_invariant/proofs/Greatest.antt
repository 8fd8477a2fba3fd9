-- The greatest rank of a list of numbers: it is at least each, and some number has it.
use Rattle.std.proofs.Common.{arith, ◌≡◌, ℕ, zero, suc, ◌<◌, ◌≤◌, max, true, List, [], ◌∷◌, ◌++◌, sym, ◌∙◌, ap, refl, inl, inr, le_refl}
use Rattle.std.specs.Prelude.{nat_eq, ◌⊎◌, fold}
use Rattle.std.specs.List.{list_any}
use Rattle.std.proofs.lemmas.Bool.{eqb-true, eq-eqb, or_cases, or_left, or_right}
use Rattle.std.proofs.lemmas.List.Folds.{list_any-append}
use Rattle.ptk_words.specs.Pools.{numbers_to}
use Rattle.ptk_words.proofs.Options.{max_cases}
use Rattle.ptk_words_sync_invariant.proofs.ChainLaws.{false_true}

-- ---- the greatest of a list

abbrev pub top : (ℕ → ℕ) → ℕ → List ℕ → ℕ
top rank a ks = fold (λ most k. max most (rank k)) a ks

pub start_le : (rank : ℕ → ℕ) (a : ℕ) (ks : List ℕ) → a ≤ top rank a ks
start_le rank a [] = le_refl a
start_le rank a (k ∷ ks) = omega (arith, start_le rank (max a (rank k)) ks)

member_cases : (rank : ℕ → ℕ) (a k q : ℕ) (ks : List ℕ) → ((b : ℕ) → list_any (nat_eq q) ks ≡ true → rank q ≤ top rank b ks) → (nat_eq q k ≡ true) ⊎ (list_any (nat_eq q) ks ≡ true) → rank q ≤ top rank a (k ∷ ks)
member_cases rank a k q ks ih (inl e) =
    let same : rank q ≡ rank k = ap rank (eqb-true q k e) in omega (arith, same, start_le rank (max a (rank k)) ks)
member_cases rank a k q ks ih (inr h) = ih (max a (rank k)) h

pub member_le : (rank : ℕ → ℕ) (q : ℕ) (ks : List ℕ) (a : ℕ) → list_any (nat_eq q) ks ≡ true → rank q ≤ top rank a ks
member_le rank q [] a h = false_true h
member_le rank q (k ∷ ks) a h = member_cases rank a k q ks (member_le rank q ks) (or_cases _ _ h)

abbrev pub Attained : (ℕ → ℕ) → ℕ → List ℕ → Type 0
Attained rank a ks = (top rank a ks ≡ a) ⊎ ((q : ℕ) × (list_any (nat_eq q) ks ≡ true) × (rank q ≡ top rank a ks))

attained_cases : (rank : ℕ → ℕ) (a k : ℕ) (ks : List ℕ) → (max a (rank k) ≡ a) ⊎ (max a (rank k) ≡ rank k) → Attained rank (max a (rank k)) ks → Attained rank a (k ∷ ks)
attained_cases rank a k ks m (inr (q, h, e)) = inr (q, or_right _ _ h, e)
attained_cases rank a k ks (inl m) (inl e) = inl (e ∙ m)
attained_cases rank a k ks (inr m) (inl e) = inr (k, or_left _ _ (eq-eqb k k refl), sym (e ∙ m))

pub attained : (rank : ℕ → ℕ) (a : ℕ) (ks : List ℕ) → Attained rank a ks
attained rank a [] = inl refl
attained rank a (k ∷ ks) = attained_cases rank a k ks (max_cases a (rank k)) (attained rank (max a (rank k)) ks)

-- ---- numbers of the pool

last_or_before : (n q : ℕ) → q < suc (suc n) → (q < suc n) ⊎ (q ≡ suc n)
last_or_before n q h = grind (arith, h)

numbers_cases : (n q : ℕ) → ((q < suc n) → list_any (nat_eq q) (numbers_to n) ≡ true) → (q < suc n) ⊎ (q ≡ suc n) → list_any (nat_eq q) (numbers_to n ++ suc n ∷ []) ≡ true
numbers_cases n q ih (inl h) = rw (list_any-append (nat_eq q) (numbers_to n) (suc n ∷ [])) (or_left _ _ (ih h))
numbers_cases n q ih (inr e) = rw (list_any-append (nat_eq q) (numbers_to n) (suc n ∷ [])) (or_right _ _ (or_left _ _ (eq-eqb q (suc n) e)))

pub numbers_member : (n q : ℕ) → 0 < q → q < suc n → list_any (nat_eq q) (numbers_to n) ≡ true
numbers_member zero q z h = absurd (omega (arith, z, h))
numbers_member (suc n) q z h = numbers_cases n q (numbers_member n q z) (last_or_before n q h)
