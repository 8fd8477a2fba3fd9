-- What holds of each two elements holds of them in any order.
use Rattle.std.proofs.Common.{◌≡◌, ℕ, ◌<◌, List, length, get_or, AllPairs, IsPermutation, swap, refl, sym, subst, ◌∙◌, inl, inr, ◌⊎◌, arith}
use Rattle.std.proofs.lemmas.Bool.{cases_order, cases_eq}
use Rattle.std.proofs.lemmas.List.Edits.{swapped_from_swap, length-swap}
use Rattle.std.proofs.lemmas.List.Sorted.{IsPermutation-keeps}

-- each two elements are so related, either way round
abbrev EachTwo : {X : Type 0} → (X → X → Type 0) → List X → Type 0
EachTwo {X} R xs = (i j : ℕ) (d : X) → (i ≡ j → ⊥) → i < length xs → j < length xs → R (get_or xs i d) (get_or xs j d)

-- after an exchange of a and b, k has what was at k'
abbrev Was : ℕ → ℕ → ℕ → ℕ → Type 0
Was a b k k' = ((k ≡ a) × (k' ≡ b)) ⊎ (((k ≡ b) × (k' ≡ a)) ⊎ ((k ≡ a → ⊥) × (k ≡ b → ⊥) × (k' ≡ k)))

was_apart : (a b i i' j j' : ℕ) → Was a b i i' → Was a b j j' → (i ≡ j → ⊥) → i' ≡ j' → ⊥
was_apart a b i i' j j' (inl p) (inl q) apart same = apart (p.0 ∙ sym q.0)
was_apart a b i i' j j' (inl p) (inr (inl q)) apart same = apart (omega (arith, p.0, p.1, q.0, q.1))
was_apart a b i i' j j' (inl p) (inr (inr q)) apart same = q.1 (sym q.2 ∙ (sym same ∙ p.1))
was_apart a b i i' j j' (inr (inl p)) (inl q) apart same = apart (omega (arith, p.0, p.1, q.0, q.1))
was_apart a b i i' j j' (inr (inl p)) (inr (inl q)) apart same = apart (p.0 ∙ sym q.0)
was_apart a b i i' j j' (inr (inl p)) (inr (inr q)) apart same = q.0 (sym q.2 ∙ (sym same ∙ p.1))
was_apart a b i i' j j' (inr (inr p)) (inl q) apart same = p.1 (sym p.2 ∙ (same ∙ q.1))
was_apart a b i i' j j' (inr (inr p)) (inr (inl q)) apart same = p.0 (sym p.2 ∙ (same ∙ q.1))
was_apart a b i i' j j' (inr (inr p)) (inr (inr q)) apart same = apart (sym p.2 ∙ (same ∙ q.2))

was : {X : Type 0} (xs : List X) (a b k : ℕ) (d : X) → a < length xs → b < length xs → k < length xs → (k' : ℕ) × Was a b k k' × (k' < length xs) × (get_or (swap xs a b) k d ≡ get_or xs k' d)
was {X} xs a b k d a_below b_below k_below =
    let moved = swapped_from_swap xs (swap xs a b) a b d a_below b_below refl in
    elim (cases_eq k a) [
      | inl at_a ↦ (b, inl (at_a, refl), b_below, subst (λ (n : ℕ). get_or (swap xs a b) n d ≡ get_or xs b d) (sym at_a) moved.0)
      | inr not_a ↦ elim (cases_eq k b) [
        | inl at_b ↦ (a, inr (inl (at_b, refl)), a_below, subst (λ (n : ℕ). get_or (swap xs a b) n d ≡ get_or xs a d) (sym at_b) moved.1)
        | inr not_b ↦ (k, inr (inr (not_a, not_b, refl)), k_below, moved.2 k not_a not_b)
      ]
    ]

each_two_swap : {X : Type 0} (R : X → X → Type 0) (xs : List X) (a b : ℕ) → a < length xs → b < length xs → EachTwo R xs → EachTwo R (swap xs a b)
each_two_swap {X} R xs a b a_below b_below each = λ i j d apart i_below j_below.
    let first = was xs a b i d a_below b_below (subst (λ (n : ℕ). i < n) (length-swap xs a b) i_below) in
    let second = was xs a b j d a_below b_below (subst (λ (n : ℕ). j < n) (length-swap xs a b) j_below) in
    let before = each first.0 second.0 d (was_apart a b i first.0 j second.0 first.1 second.1 apart) first.2 second.2 in
    subst (λ (x : X). R x (get_or (swap xs a b) j d)) (sym first.3) (subst (λ (y : X). R (get_or xs first.0 d) y) (sym second.3) before)

pub AllPairs-permutation : {X : Type 0} (R : X → X → Type 0) → ((x y : X) → R x y → R y x) → (xs ys : List X) → IsPermutation xs ys → AllPairs R xs → AllPairs R ys
AllPairs-permutation {X} R turn xs ys moved pairs =
    let start : EachTwo R xs = λ i j d apart i_below j_below.
    elim (cases_order i j) [
      | inl same ↦ absurd (apart same)
      | inr (inl before) ↦ pairs i j d before j_below
      | inr (inr after) ↦ turn (get_or xs j d) (get_or xs i d) (pairs j i d after i_below)
    ] in
    let each : EachTwo R ys = IsPermutation-keeps xs (EachTwo R) start (λ l a b a_below b_below. each_two_swap R l a b a_below b_below) ys moved in
    λ i j d before below. each i j d (λ same. omega arith) (omega arith) below
