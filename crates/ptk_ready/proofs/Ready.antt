-- The ready threads of a partition's links, and the one list of them that is in order.
use Rattle.std.proofs.Common.{◌≡◌, ℕ, zero, suc, ◌<◌, ◌≤◌, List, [], ◌∷◌, length, true, refl, sym, ◌∙◌, arith, inl, inr}
use Rattle.std.specs.Prelude.{ℤ, nat_eq, Option, Some, None}
use Rattle.std.specs.List.{IsDistinct}
use Rattle.std.specs.Cmp.{nat_eq_equiv}
use Rattle.std.proofs.lemmas.Bool.Decides.{nat_tests}
use Rattle.std.proofs.lemmas.Map.Keys.{IsDistinct-push}
use Rattle.std.proofs.lemmas.Bool.{and_parts}
use Rattle.ptk_words.specs.Pools.{is_in, numbers_to}
use Rattle.ptk_words.proofs.Lists.{distinct-filter, none_distinct, in_here, in_head}
use Rattle.ptk_threads.specs.declared.link.Link.{Link}
use Rattle.ptk_threads.specs.Links.{mark_of}
use Rattle.ptk_threads.proofs.Along.{in_left, in_right, in_parts, not_true, le_or_gt, marked_within}
use Rattle.ptk_ready.specs.declared.stamps.StampRange.{StampRange}
use Rattle.ptk_ready.specs.Entries.{is_ready_place, is_ready, ready_of, stamp_of, entries, AreStamps}
use Rattle.ptk_ready.proofs.Orders.{IsInOrder, same_test, in_sorted, in_kept, order_sorted, order_apart, same_list}

-- ---- numbers

in_numbers : (n k : ℕ) → 0 < k → k ≤ n → is_in k (numbers_to n) ≡ true
in_numbers zero k pos le = absurd (omega arith)
in_numbers (suc n) k pos le = elim (le_or_gt k n) as (λ _. is_in k (numbers_to (suc n)) ≡ true) [
  | inl small ↦ in_left k (numbers_to n) (suc n ∷ []) (in_numbers n k pos small)
  | inr large ↦ (let same : k ≡ suc n = omega (arith, le, large) in in_right k (numbers_to n) (suc n ∷ []) (rw same (in_here (suc n) [])))
]

numbers_small : (n k : ℕ) → is_in k (numbers_to n) ≡ true → k ≤ n
numbers_small zero k h = absurd (cc)
numbers_small (suc n) k h = elim (in_parts k (numbers_to n) (suc n ∷ []) h) as (λ _. k ≤ suc n) [
  | inl l ↦ (let small = numbers_small n k l in omega arith)
  | inr r ↦ elim (in_head (suc n) k [] r) as (λ _. k ≤ suc n) [ inl e ↦ omega arith | inr none ↦ absurd (cc) ]
]

pub numbers_distinct : (n : ℕ) → IsDistinct nat_eq (numbers_to n)
numbers_distinct zero = none_distinct
numbers_distinct (suc n) =
    IsDistinct-push nat_eq_equiv (numbers_to n) (suc n) (numbers_distinct n)
    (not_true (is_in (suc n) (numbers_to n)) (λ inside. (let small : suc n ≤ n = numbers_small n (suc n) inside in absurd (omega arith))))

-- ---- marks

pub record Ready (links : List Link) (k : ℕ) : Type 0 where
  pub place : ℕ
  pub low : place < 32
  pub mark : mark_of links k ≡ Some place

ready_at : (o : Option ℕ) → is_ready_place o ≡ true → (i : ℕ) × (i < 32) × (o ≡ Some i)
ready_at None h = absurd (cc)
ready_at (Some i) h = (i, grind (arith, nat_tests), refl)

pub ready_mark : (links : List Link) (k : ℕ) → is_ready links k ≡ true → Ready links k
ready_mark links k h = let at = ready_at (mark_of links k) h in record { place = at.0; low = at.1; mark = at.2 }

pub marked_ready : (links : List Link) (k i : ℕ) → i < 32 → mark_of links k ≡ Some i → is_ready links k ≡ true
marked_ready links k i lt mark = rw mark (grind (arith, nat_tests))

pub in_ready : (links : List Link) (k : ℕ) → is_in k (ready_of links) ≡ is_ready links k
in_ready links k = same_test (is_in k (ready_of links)) (is_ready links k)
    (λ inside. (and_parts (is_ready links k) (is_in k (numbers_to (length links))) (sym (in_kept (is_ready links) k (numbers_to (length links))) ∙ inside)).0)
    (λ ready. (let at = ready_mark links k ready in
    let within = marked_within links k at.place at.mark in
    in_kept (is_ready links) k (numbers_to (length links)) ∙ (rw (ready, in_numbers (length links) k within.0 within.1) refl)))

ready_distinct : (links : List Link) → IsDistinct nat_eq (ready_of links)
ready_distinct links = distinct-filter (is_ready links) (numbers_to (length links)) (numbers_distinct (length links))

-- ---- the line

pub in_entries : (links : List Link) (stamps : List ℤ) (k : ℕ) → is_in k (entries links stamps) ≡ is_ready links k
in_entries links stamps k = in_sorted (stamp_of stamps) k (ready_of links) ∙ in_ready links k

pub entries_order : (limit : ℕ) (range : StampRange) (links : List Link) (stamps : List ℤ) → AreStamps limit range links stamps → IsInOrder (stamp_of stamps) (entries links stamps)
entries_order limit range links stamps are =
    order_sorted (stamp_of stamps) (ready_of links) (ready_distinct links)
    (λ j k a b e. are.apart j k (sym (in_ready links j) ∙ a) (sym (in_ready links k) ∙ b) e)

-- the list in order that has exactly the ready threads
pub entries_are : (links : List Link) (stamps : List ℤ) (xs : List ℕ) → IsInOrder (stamp_of stamps) xs → ((k : ℕ) → is_in k xs ≡ is_ready links k) → entries links stamps ≡ xs
entries_are links stamps xs order same =
    let apart : (j k : ℕ) → is_in j (ready_of links) ≡ true → is_in k (ready_of links) ≡ true → stamp_of stamps j ≡ stamp_of stamps k → j ≡ k =
    λ j k a b e. order_apart (stamp_of stamps) xs order j k (same j ∙ (sym (in_ready links j) ∙ a)) (same k ∙ (sym (in_ready links k) ∙ b)) e in
    same_list (stamp_of stamps) (entries links stamps) xs
    (order_sorted (stamp_of stamps) (ready_of links) (ready_distinct links) apart) order
    (λ k inside. same k ∙ (sym (in_entries links stamps k) ∙ inside))
    (λ k inside. in_entries links stamps k ∙ (sym (same k) ∙ inside))
