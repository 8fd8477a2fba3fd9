-- Where a pair has its place in the order, and where a binary search finds it.
use Rattle.std.proofs.Common.{◌≡◌, ℕ, zero, suc, ◌+◌, ◌<◌, ◌≤◌, List, [], ◌∷◌, length, get_or, take, Bool, true, false, cond, ◌&&◌, not, refl, ap, arith, Some, None}
use Rattle.std.specs.Prelude.{nat_lt, nat_le, find, position, unwrap_or}
use Rattle.std.specs.List.{AllWithin, insert, position_or_len}
use Rattle.std.specs.List.Sorted.{IsPartitionedBy, IsPartitionPoint}
use Rattle.std.proofs.lemmas.Bool.Decides.{nat_tests}
use Rattle.std.proofs.lemmas.Bool.{not-true, not-false}
use Rattle.ptk_words.specs.Names.{Tick}
use Rattle.ptk_clock.specs.Pairs.{Pair, is_before, IsBeforeAll, AreInOrder, with_pair, is_among, is_due}

-- ---- pairs in order are parted by each of the tests

before_all_at : (a : Pair) (xs : List Pair) (j : ℕ) (d : Pair) → IsBeforeAll a xs → j < length xs → is_before a (get_or xs j d) ≡ true
before_all_at a [] j d h lt = absurd (omega arith)
before_all_at a (x ∷ xs) zero d h lt = h.0
before_all_at a (x ∷ xs) (suc j) d h lt = before_all_at a xs j d h.1 (omega arith)

-- a test that holds of what is before a pair of which it holds
parted : (test : Pair → Bool) → ((a b : Pair) → is_before a b ≡ true → test b ≡ true → test a ≡ true) → (xs : List Pair) → AreInOrder xs → IsPartitionedBy test xs
parted test down [] h i j d le lt t = absurd (omega arith)
parted test down (x ∷ xs) h zero zero d le lt t = t
parted test down (x ∷ xs) h zero (suc j) d le lt t = down x (get_or xs j d) (before_all_at x xs j d h.0 (omega arith)) t
parted test down (x ∷ xs) h (suc i) zero d le lt t = absurd (omega arith)
parted test down (x ∷ xs) h (suc i) (suc j) d le lt t = parted test down xs h.1 i j d (omega arith) (omega arith) t

after_down : (c a b : Pair) → is_before a b ≡ true → not (is_before c b) ≡ true → not (is_before c a) ≡ true
after_down c a b p q = grind (arith, nat_tests)

due_down : (now : Tick) (a b : Pair) → is_before a b ≡ true → nat_le b.0 now ≡ true → nat_le a.0 now ≡ true
due_down now a b p q = grind (arith, nat_tests)

pub parted-before : (c : Pair) (xs : List Pair) → AreInOrder xs → IsPartitionedBy (λ a. not (is_before c a)) xs
parted-before c xs h = parted (λ a. not (is_before c a)) (after_down c) xs h

pub parted-due : (now : Tick) (xs : List Pair) → AreInOrder xs → IsPartitionedBy (λ a. nat_le a.0 now) xs
parted-due now xs h = parted (λ a. nat_le a.0 now) (due_down now) xs h

-- ---- what stands at such a place

both_when : (a b : Bool) → b ≡ true → (a && b) ≡ a
both_when true b h = h
both_when false b h = refl

none_when : (a b : Bool) → b ≡ false → (a && b) ≡ false
none_when true b h = h
none_when false b h = refl

-- a pair that is not due is passed over
none_due : (first last : ℕ) (now : Tick) (x : Pair) (xs : List Pair) → nat_le x.0 now ≡ false → find (is_among first last) (take 0 xs) ≡ find (is_due first last now) xs → find (is_among first last) (take 0 (x ∷ xs)) ≡ find (is_due first last now) (x ∷ xs)
none_due first last now x xs late rest = rw (none_when (is_among first last x) (nat_le x.0 now) late) rest

-- a pair that is due counts where its slot does
some_due : (first last : ℕ) (now : Tick) (x : Pair) (xs ys : List Pair) → nat_le x.0 now ≡ true → find (is_among first last) ys ≡ find (is_due first last now) xs → find (is_among first last) (x ∷ ys) ≡ find (is_due first last now) (x ∷ xs)
some_due first last now x xs ys early rest = rw (both_when (is_among first last x) (nat_le x.0 now) early) (ap (λ r. cond (is_among first last x) (Some x) r) rest)

-- the place after all pairs that are before c is c's place, unless c is there
pub insert-with : (c : Pair) (xs : List Pair) (i : ℕ) → i ≤ length xs → AllWithin (λ a. is_before c a ≡ false) xs 0 i → AllWithin (λ a. is_before c a ≡ true) xs i (length xs) → insert xs i c ≡ with_pair c xs
insert-with c [] zero le lower upper = refl
insert-with c [] (suc i) le lower upper = absurd (omega arith)
insert-with c (x ∷ xs) zero le lower upper = let first : is_before c x ≡ true = upper 0 x (omega arith) (omega arith) in rw first refl
insert-with c (x ∷ xs) (suc i) le lower upper =
    let first : is_before c x ≡ false = lower 0 x (omega arith) (omega arith) in
    rw first (ap (λ ys. x ∷ ys) (insert-with c xs i (omega arith) (λ k d h t. lower (suc k) d (omega arith) (omega arith)) (λ k d h t. upper (suc k) d (omega arith) (omega arith))))

-- a binary search for the first pair that is not before c gives c's place
pub insert-point : (c : Pair) (xs : List Pair) (i : ℕ) → i ≤ length xs → IsPartitionPoint (λ a. not (is_before c a) ≡ true) (λ a. not (is_before c a) ≡ false) xs i → insert xs i c ≡ with_pair c xs
insert-point c xs i le point =
    insert-with c xs i le (λ k d h t. not-true (is_before c (get_or xs k d)) (point.0 k d h t)) (λ k d h t. not-false (is_before c (get_or xs k d)) (point.1 k d h t))

-- the first n pairs are those due by now
pub find-due : (first last : ℕ) (now : Tick) (xs : List Pair) (n : ℕ) → n ≤ length xs → AllWithin (λ a. nat_le a.0 now ≡ true) xs 0 n → AllWithin (λ a. nat_le a.0 now ≡ false) xs n (length xs)
    → find (is_among first last) (take n xs) ≡ find (is_due first last now) xs
find-due first last now [] zero le lower upper = refl
find-due first last now [] (suc n) le lower upper = absurd (omega arith)
find-due first last now (x ∷ xs) zero le lower upper =
    let late : nat_le x.0 now ≡ false = upper 0 x (omega arith) (omega arith) in
    none_due first last now x xs late (find-due first last now xs zero (omega arith) (λ k d h t. absurd (omega arith)) (λ k d h t. upper (suc k) d (omega arith) (omega arith)))
find-due first last now (x ∷ xs) (suc n) le lower upper =
    let early : nat_le x.0 now ≡ true = lower 0 x (omega arith) (omega arith) in
    some_due first last now x xs (take n xs) early (find-due first last now xs n (omega arith) (λ k d h t. lower (suc k) d (omega arith) (omega arith)) (λ k d h t. upper (suc k) d (omega arith) (omega arith)))

-- ---- pairs looked through from the first one

within_step : (b : Bool) (i n : ℕ) → i ≤ n → cond (not b) (1 + i) 0 ≤ suc n
within_step true i n h = omega arith
within_step false i n h = omega arith

first_step : (c x : Pair) (xs : List Pair) (b : Bool) → insert xs (position_or_len (is_before c) xs) c ≡ with_pair c xs
    → insert (x ∷ xs) (cond (not b) (1 + position_or_len (is_before c) xs) 0) c ≡ cond b (c ∷ x ∷ xs) (x ∷ with_pair c xs)
first_step c x xs true h = refl
first_step c x xs false h = let next : 1 + position_or_len (is_before c) xs ≡ suc (position_or_len (is_before c) xs) = omega arith in rw next (ap (λ ys. x ∷ ys) h)

first_within : (c : Pair) (xs : List Pair) → position_or_len (is_before c) xs ≤ length xs
first_within c [] = omega arith
first_within c (x ∷ xs) = within_step (is_before c x) (position_or_len (is_before c) xs) (length xs) (first_within c xs)

insert-first : (c : Pair) (xs : List Pair) → insert xs (position_or_len (is_before c) xs) c ≡ with_pair c xs
insert-first c [] = refl
insert-first c (x ∷ xs) = first_step c x xs (is_before c x) (insert-first c xs)

at_place : (b : Bool) (i n : ℕ) → i ≤ n → nat_lt i n ≡ b → unwrap_or (cond b (Some i) None) n ≡ i
at_place true i n h e = refl
at_place false i n h e = let late : n ≤ i = grind (arith, nat_tests) in omega arith

-- the place of the first pair that c is before is c's, and the end where there is none
pub insert-position : (c : Pair) (xs : List Pair) → insert xs (unwrap_or (position (is_before c) xs) (length xs)) c ≡ with_pair c xs
insert-position c xs =
    let i : ℕ = position_or_len (is_before c) xs in
    rw (at_place (nat_lt i (length xs)) i (length xs) (first_within c xs) refl) (insert-first c xs)
