-- The greatest rank of the numbers whose chain holds a number, as a relation.
use Rattle.std.proofs.Common.{arith, ◌≡◌, ℕ, zero, suc, ◌≤◌, true, false, ◌&&◌, List, [], ◌∷◌, sym, ◌∙◌, ap, inl, inr}
use Rattle.std.specs.Prelude.{nat_eq, Option, Some, ◌⊎◌, filter, option_and_then}
use Rattle.std.specs.List.{list_any}
use Rattle.std.proofs.lemmas.Bool.{eqb-true, or_cases, and_from, and_parts}
use Rattle.std.proofs.lemmas.List.Folds.{list_any-append}
use Rattle.std.proofs.lemmas.Map.Views.{any-filter_same}
use Rattle.ptk_words.specs.Pools.{numbers_to}
use Rattle.ptk_words_model.specs.Chain.{Leads, leads_to, greatest_leading}
use Rattle.ptk_words_sync_invariant.proofs.ChainLaws.{false_true, reaches_sound, chain_complete, IsNumber, IsBounded}
use Rattle.ptk_words_sync_invariant.proofs.Greatest.{member_le, Attained, attained, numbers_member}

-- x is the greatest rank of the numbers that lead to t, or 0
pub record IsTop (size : ℕ) (next : ℕ → Option ℕ) (rank : ℕ → ℕ) (t x : ℕ) : Type 0 where
  pub greatest : (u : ℕ) → IsNumber size u → Leads next u t → rank u ≤ x
  pub reached : (x ≡ 0) ⊎ ((u : ℕ) × IsNumber size u × Leads next u t × (rank u ≡ x))

top_le : (size : ℕ) (next : ℕ → Option ℕ) (rank : ℕ → ℕ) (t x y : ℕ) → ((x ≡ 0) ⊎ ((u : ℕ) × IsNumber size u × Leads next u t × (rank u ≡ x))) → IsTop size next rank t y → x ≤ y
top_le size next rank t x y (inl z) top = omega (arith, z)
top_le size next rank t x y (inr (u, n, l, e)) top = omega (arith, e, top.greatest u n l)

pub top-unique : (size : ℕ) (next : ℕ → Option ℕ) (rank : ℕ → ℕ) (t x y : ℕ) → IsTop size next rank t x → IsTop size next rank t y → x ≡ y
top-unique size next rank t x y a b = omega (arith, top_le size next rank t x y a.reached b, top_le size next rank t y x b.reached a)

-- ---- what computes it

abbrev leading : ℕ → (ℕ → Option ℕ) → ℕ → List ℕ
leading size next t = filter (λ u. leads_to next t size u) (numbers_to size)

leading-any : (size : ℕ) (next : ℕ → Option ℕ) (t u : ℕ) → list_any (nat_eq u) (leading size next t) ≡ (leads_to next t size u && list_any (nat_eq u) (numbers_to size))
leading-any size next t u =
    any-filter_same (nat_eq u) (λ v. leads_to next t size v) (leads_to next t size u)
    (λ k e. ap (λ v. leads_to next t size v) (sym (eqb-true u k e))) (numbers_to size)

last_number : (n u : ℕ) → (nat_eq u (suc n) ≡ true) ⊎ (false ≡ true) → IsNumber (suc n) u
last_number n u (inl e) = let s : u ≡ suc n = eqb-true u (suc n) e in (omega (arith, s), omega (arith, s))
last_number n u (inr e) = false_true e

number_member_cases : (n u : ℕ) → (list_any (nat_eq u) (numbers_to n) ≡ true → IsNumber n u) → (list_any (nat_eq u) (numbers_to n) ≡ true) ⊎ (list_any (nat_eq u) (suc n ∷ []) ≡ true) → IsNumber (suc n) u
number_member_cases n u ih (inl h) = let b : IsNumber n u = ih h in (b.0, omega (arith, b.1))
number_member_cases n u ih (inr h) = last_number n u (or_cases _ _ h)

pub number_member : (size u : ℕ) → list_any (nat_eq u) (numbers_to size) ≡ true → IsNumber size u
number_member zero u h = false_true h
number_member (suc n) u h = number_member_cases n u (λ e. number_member n u e) (or_cases _ _ (sym (list_any-append (nat_eq u) (numbers_to n) (suc n ∷ [])) ∙ h))

reached_by : (size : ℕ) (next : ℕ → Option ℕ) (rank : ℕ → ℕ) (t : ℕ) → Attained rank 0 (leading size next t)
    → (greatest_leading size next rank t ≡ 0) ⊎ ((u : ℕ) × IsNumber size u × Leads next u t × (rank u ≡ greatest_leading size next rank t))
reached_by size next rank t (inl e) = inl e
reached_by size next rank t (inr (u, h, e)) =
    let p : (leads_to next t size u ≡ true) × (list_any (nat_eq u) (numbers_to size) ≡ true) = and_parts _ _ (sym (leading-any size next t u) ∙ h) in
    inr (u, number_member size u p.1, reaches_sound next t size u p.0, e)

pub greatest_leading-top : (size : ℕ) (next : ℕ → Option ℕ) (rank : ℕ → ℕ) (t : ℕ) → IsBounded size next → IsTop size next rank t (greatest_leading size next rank t)
greatest_leading-top size next rank t bounded =
    record {
      greatest = λ u n l. member_le rank u (leading size next t) 0 (leading-any size next t u ∙ and_from _ _ (chain_complete size next bounded u t l) (numbers_member size u n.0 n.1));
      reached = reached_by size next rank t (attained rank 0 (leading size next t));
    }

-- ---- along a chain it does not fall

pub led_on : (next : ℕ → Option ℕ) (u w v : ℕ) → Leads next u w → next w ≡ Some v → Leads next u v
led_on next u w v r e = (suc r.0, ap (option_and_then next) r.1 ∙ e)

rising_by : (size : ℕ) (next : ℕ → Option ℕ) (rank : ℕ → ℕ) (w v x y : ℕ) → ((x ≡ 0) ⊎ ((u : ℕ) × IsNumber size u × Leads next u w × (rank u ≡ x))) → IsTop size next rank v y → next w ≡ Some v → x ≤ y
rising_by size next rank w v x y (inl z) b e = omega (arith, z)
rising_by size next rank w v x y (inr (u, n, l, r)) b e = omega (arith, r, b.greatest u n (led_on next u w v l e))

pub rising : (size : ℕ) (next : ℕ → Option ℕ) (rank : ℕ → ℕ) (w v x y : ℕ) → IsTop size next rank w x → IsTop size next rank v y → next w ≡ Some v → x ≤ y
rising size next rank w v x y a b e = rising_by size next rank w v x y a.reached b e
