-- A queue of deadlines after a pair came or left: in order, of each slot at most once, and with room.
use Rattle.std.proofs.Common.{◌++◌, ◌∙◌, sym, ◌≡◌, ℕ, suc, ◌<◌, ◌≤◌, List, [], ◌∷◌, length, Bool, true, false, cond, not, refl, ap, arith, ◌⊎◌, inl, inr, Result, Ok, Err}
use Rattle.std.specs.Prelude.{nat_eq, filter, ◌==◌, IsOk, is_ok}
use Rattle.std.specs.List.{insert, IsDistinct, AllByRecursion}
use Rattle.std.proofs.lemmas.Bool.Decides.{nat_tests}
use Rattle.std.proofs.lemmas.Map.Keys.{IsDistinct-cons, IsDistinct-head, IsDistinct-tail}
use Rattle.std.proofs.lemmas.Map.Steps.{length-le_from_distinct_below}
use Rattle.std.proofs.lemmas.Bool.{or_parts, or_cases, or_right}
use Rattle.ptk_words.specs.Pools.{is_in}
use Rattle.ptk_words.proofs.Lists.{none_distinct, apart_from_out}
use Rattle.ptk_clock.specs.Pairs.{Pair, slots_of, is_before, IsBeforeAll, AreInOrder, with_pair, without_slot}
use Rattle.ptk_clock.specs.Queues.{AreDeadlines}

by_test : (P : List Pair → Type 0) (b : Bool) (xs ys : List Pair) → (b ≡ true → P xs) → (b ≡ false → P ys) → P (cond b xs ys)
by_test P true xs ys f g = f refl
by_test P false xs ys f g = g refl

-- ---- the order

before_after : (a b c : Pair) → is_before a b ≡ true → is_before b c ≡ true → is_before a c ≡ true
before_after a b c p q = grind (arith, nat_tests)

before_other : (a b : Pair) → nat_eq a.1 b.1 ≡ false → is_before a b ≡ false → is_before b a ≡ true
before_other a b n p = grind (arith, nat_tests)

before_all_after : (a b : Pair) (xs : List Pair) → is_before a b ≡ true → IsBeforeAll b xs → IsBeforeAll a xs
before_all_after a b [] p h = tt
before_all_after a b (x ∷ xs) p h = (before_after a b x p h.0, before_all_after a b xs p h.1)

before_all-with : (b a : Pair) (xs : List Pair) → is_before b a ≡ true → IsBeforeAll b xs → IsBeforeAll b (with_pair a xs)
before_all-with b a [] p h = (p, tt)
before_all-with b a (x ∷ xs) p h = by_test (IsBeforeAll b) (is_before a x) (a ∷ x ∷ xs) (x ∷ with_pair a xs) (λ t. (p, h)) (λ f. (h.0, before_all-with b a xs p h.1))

pub order-with : (a : Pair) (xs : List Pair) → is_in a.1 (slots_of xs) ≡ false → AreInOrder xs → AreInOrder (with_pair a xs)
order-with a [] out h = (tt, tt)
order-with a (x ∷ xs) out h =
    let apart = or_parts (nat_eq a.1 x.1) (is_in a.1 (slots_of xs)) out in
    by_test AreInOrder (is_before a x) (a ∷ x ∷ xs) (x ∷ with_pair a xs)
    (λ t. ((t, before_all_after a x xs t h.0), h))
    (λ f. (before_all-with x a xs (before_other a x apart.0 f) h.0, order-with a xs apart.1 h.1))

before_all-filter : (b : Pair) (test : Pair → Bool) (xs : List Pair) → IsBeforeAll b xs → IsBeforeAll b (filter test xs)
before_all-filter b test [] h = tt
before_all-filter b test (x ∷ xs) h = by_test (IsBeforeAll b) (test x) (x ∷ filter test xs) (filter test xs) (λ t. (h.0, before_all-filter b test xs h.1)) (λ f. before_all-filter b test xs h.1)

order-filter : (test : Pair → Bool) (xs : List Pair) → AreInOrder xs → AreInOrder (filter test xs)
order-filter test [] h = tt
order-filter test (x ∷ xs) h = by_test AreInOrder (test x) (x ∷ filter test xs) (filter test xs) (λ t. (before_all-filter x test xs h.0, order-filter test xs h.1)) (λ f. order-filter test xs h.1)

-- ---- the slots

in-with : (q : ℕ) (a : Pair) (xs : List Pair) → is_in q (slots_of (with_pair a xs)) ≡ true → (q ≡ a.1) ⊎ (is_in q (slots_of xs) ≡ true)
in-with q a [] = λ h. elim (or_cases (nat_eq q a.1) false h) as (λ _. (q ≡ a.1) ⊎ (is_in q [] ≡ true)) [ inl e ↦ inl (grind (arith, nat_tests)) | inr r ↦ inr r ]
in-with q a (x ∷ xs) =
    let P : List Pair → Type 0 = λ ys. is_in q (slots_of ys) ≡ true → (q ≡ a.1) ⊎ (is_in q (slots_of (x ∷ xs)) ≡ true) in
    by_test P (is_before a x) (a ∷ x ∷ xs) (x ∷ with_pair a xs)
    (λ t h. elim (or_cases (nat_eq q a.1) (is_in q (slots_of (x ∷ xs))) h) as (λ _. (q ≡ a.1) ⊎ (is_in q (slots_of (x ∷ xs)) ≡ true)) [ inl e ↦ inl (grind (arith, nat_tests)) | inr r ↦ inr r ])
    (λ f h. elim (or_cases (nat_eq q x.1) (is_in q (slots_of (with_pair a xs))) h) as (λ _. (q ≡ a.1) ⊎ (is_in q (slots_of (x ∷ xs)) ≡ true)) [
      | inl e ↦ inr (rw e refl)
      | inr r ↦ elim (in-with q a xs r) as (λ _. (q ≡ a.1) ⊎ (is_in q (slots_of (x ∷ xs)) ≡ true)) [ inl s ↦ inl s | inr s ↦ inr (or_right (nat_eq q x.1) (is_in q (slots_of xs)) s) ]
    ])

apart-with : (k : ℕ) (a : Pair) (xs : List Pair) → nat_eq k a.1 ≡ false → AllByRecursion (λ y. nat_eq k y ≡ false) (slots_of xs) → AllByRecursion (λ y. nat_eq k y ≡ false) (slots_of (with_pair a xs))
apart-with k a [] n h = (n, tt)
apart-with k a (x ∷ xs) n h =
    by_test (λ ys. AllByRecursion (λ y. nat_eq k y ≡ false) (slots_of ys)) (is_before a x) (a ∷ x ∷ xs) (x ∷ with_pair a xs) (λ t. (n, h)) (λ f. (h.0, apart-with k a xs n h.1))

flipped : (i j : ℕ) → nat_eq i j ≡ false → nat_eq j i ≡ false
flipped i j h = grind (arith, nat_tests)

distinct-with : (a : Pair) (xs : List Pair) → is_in a.1 (slots_of xs) ≡ false → IsDistinct nat_eq (slots_of xs) → IsDistinct nat_eq (slots_of (with_pair a xs))
distinct-with a [] out h = IsDistinct-cons nat_eq a.1 [] tt h
distinct-with a (x ∷ xs) out h =
    let both = or_parts (nat_eq a.1 x.1) (is_in a.1 (slots_of xs)) out in
    by_test (λ ys. IsDistinct nat_eq (slots_of ys)) (is_before a x) (a ∷ x ∷ xs) (x ∷ with_pair a xs)
    (λ t. IsDistinct-cons nat_eq a.1 (slots_of (x ∷ xs)) (apart_from_out a.1 (slots_of (x ∷ xs)) out) h)
    (λ f. IsDistinct-cons nat_eq x.1 (slots_of (with_pair a xs)) (apart-with x.1 a xs (flipped a.1 x.1 both.0) (IsDistinct-head nat_eq x.1 (slots_of xs) h)) (distinct-with a xs both.1 (IsDistinct-tail nat_eq x.1 (slots_of xs) h)))

in-filter : (q : ℕ) (test : Pair → Bool) (xs : List Pair) → is_in q (slots_of (filter test xs)) ≡ true → is_in q (slots_of xs) ≡ true
in-filter q test [] = λ h. h
in-filter q test (x ∷ xs) =
    let P : List Pair → Type 0 = λ ys. is_in q (slots_of ys) ≡ true → is_in q (slots_of (x ∷ xs)) ≡ true in
    by_test P (test x) (x ∷ filter test xs) (filter test xs)
    (λ t h. elim (or_cases (nat_eq q x.1) (is_in q (slots_of (filter test xs))) h) as (λ _. is_in q (slots_of (x ∷ xs)) ≡ true) [ inl e ↦ rw e refl | inr r ↦ or_right (nat_eq q x.1) (is_in q (slots_of xs)) (in-filter q test xs r) ])
    (λ f h. or_right (nat_eq q x.1) (is_in q (slots_of xs)) (in-filter q test xs h))

apart-filter : (k : ℕ) (test : Pair → Bool) (xs : List Pair) → AllByRecursion (λ y. nat_eq k y ≡ false) (slots_of xs) → AllByRecursion (λ y. nat_eq k y ≡ false) (slots_of (filter test xs))
apart-filter k test [] h = tt
apart-filter k test (x ∷ xs) h =
    by_test (λ ys. AllByRecursion (λ y. nat_eq k y ≡ false) (slots_of ys)) (test x) (x ∷ filter test xs) (filter test xs) (λ t. (h.0, apart-filter k test xs h.1)) (λ f. apart-filter k test xs h.1)

distinct-filter : (test : Pair → Bool) (xs : List Pair) → IsDistinct nat_eq (slots_of xs) → IsDistinct nat_eq (slots_of (filter test xs))
distinct-filter test [] h = h
distinct-filter test (x ∷ xs) h =
    let later = distinct-filter test xs (IsDistinct-tail nat_eq x.1 (slots_of xs) h) in
    by_test (λ ys. IsDistinct nat_eq (slots_of ys)) (test x) (x ∷ filter test xs) (filter test xs)
    (λ t. IsDistinct-cons nat_eq x.1 (slots_of (filter test xs)) (apart-filter x.1 test xs (IsDistinct-head nat_eq x.1 (slots_of xs) h)) later)
    (λ f. later)

-- ---- whole queues

pub deadlines_none : (n : ℕ) → AreDeadlines n []
deadlines_none n = record { in_order = tt; distinct = none_distinct; below = λ q h. (let no : false ≡ true = h in absurd (cc)) }

pub deadlines_with : (n : ℕ) (a : Pair) (xs : List Pair) → a.1 < n → is_in a.1 (slots_of xs) ≡ false → AreDeadlines n xs → AreDeadlines n (with_pair a xs)
deadlines_with n a xs lt out all = record {
  in_order = order-with a xs out all.in_order;
  distinct = distinct-with a xs out all.distinct;
  below = λ q h. elim (in-with q a xs h) as (λ _. q < n) [ inl e ↦ omega arith | inr r ↦ all.below q r ];
}

pub deadlines_without : (n slot : ℕ) (xs : List Pair) → AreDeadlines n xs → AreDeadlines n (without_slot slot xs)
deadlines_without n slot xs all = record {
  in_order = order-filter (λ pair. not (pair.1 == slot)) xs all.in_order;
  distinct = distinct-filter (λ pair. not (pair.1 == slot)) xs all.distinct;
  below = λ q h. all.below q (in-filter q (λ pair. not (pair.1 == slot)) xs h);
}

length-slots : (xs : List Pair) → length (slots_of xs) ≡ length xs
length-slots [] = refl
length-slots (x ∷ xs) = ap (λ n. suc n) (length-slots xs)

-- a slot without a pair leaves room for one more
pub deadlines_room : (n k : ℕ) (xs : List Pair) → k < n → is_in k (slots_of xs) ≡ false → AreDeadlines n xs → length xs < n
deadlines_room n k xs lt out all =
    let front : IsDistinct nat_eq (k ∷ slots_of xs) = IsDistinct-cons nat_eq k (slots_of xs) (apart_from_out k (slots_of xs) out) all.distinct in
    let below : (q : ℕ) → is_in q (k ∷ slots_of xs) ≡ true → q < n =
    λ q h. elim (or_cases (nat_eq q k) (is_in q (slots_of xs)) h) as (λ _. q < n) [ inl e ↦ (let same : q ≡ k = grind (arith, nat_tests) in omega arith) | inr r ↦ all.below q r ] in
    let few : length (k ∷ slots_of xs) ≤ n = length-le_from_distinct_below (k ∷ slots_of xs) n front below in
    omega (arith, length-slots xs)

-- a growth that was not refused
insert_at_end : (a : Pair) (xs : List Pair) → insert xs (length xs) a ≡ xs ++ a ∷ []
insert_at_end a [] = refl
insert_at_end a (x ∷ xs) = ap (λ (rest : List Pair). x ∷ rest) (insert_at_end a xs)

-- a pair whose place is the end is put there
pub put_at_end : (a : Pair) (place : ℕ) (xs ys : List Pair) → place ≡ length xs → insert xs place a ≡ with_pair a xs → ys ≡ xs ++ a ∷ [] → ys ≡ with_pair a xs
put_at_end a place xs ys at placed e = e ∙ sym (insert_at_end a xs) ∙ ap (λ i. insert xs i a) (sym at) ∙ placed

pub when_ok : {T E : Type 0} (r : Result T E) (xs ys : List Pair) → IsOk r → cond (is_ok r) xs ys ≡ xs
when_ok (Ok v) xs ys h = refl
when_ok (Err e) xs ys h = absurd (cc)
