-- Pools: lists whose places count from 1, and the choice of a number by its rank.
use Rattle.std.specs.Prelude.{ℕ, zero, suc, Bool, List, [], ◌∷◌, ◌++◌, length, fold, find, position, filter, not, ◌==◌, nat_eq, max, Option, None, option_map, option_and_then, unwrap_or, is_none, slice_get, slice_set}
use Rattle.std.specs.List.{list_any}
use Rattle.std.specs.Option.{option_flatten}

-- ---- pools: the entry of number k is at index k - 1, None where the number is free

-- the k-th of a list, from 1
abbrev pub numbered : {A : Type 0} → List A → ℕ → Option A
numbered entries zero = None
numbered entries (suc i) = slice_get entries i

-- the entry of a number, None of a free one
abbrev pub pool_get : {A : Type 0} → List (Option A) → ℕ → Option A
pool_get pool k = option_flatten (numbered pool k)

-- the list with its k-th set
abbrev pub pool_set : {A : Type 0} → List A → ℕ → A → List A
pool_set pool zero a = pool
pool_set pool (suc i) a = slice_set pool i a

-- the pool with the entry of a number changed by f; a free number stays free
abbrev pub pool_changed : {A : Type 0} → ℕ → (A → A) → List (Option A) → List (Option A)
pool_changed k f pool = pool_set pool k (option_map f (pool_get pool k))

-- the pool with what f leaves at a number, which is free where f leaves nothing; a free number stays free
abbrev pub pool_left : {A : Type 0} → ℕ → (A → Option A) → List (Option A) → List (Option A)
pool_left k f pool = pool_set pool k (option_and_then f (pool_get pool k))

-- the list with its k-th changed by f
abbrev pub pool_update : {A : Type 0} → List A → ℕ → (A → A) → List A
pool_update entries k f = unwrap_or (option_map (λ a. pool_set entries k (f a)) (numbered entries k)) entries

-- the least free number
abbrev pub least_free : {A : Type 0} → List (Option A) → Option ℕ
least_free pool = option_map suc (position is_none pool)

-- the numbers from 1 to n
abbrev pub numbers_to : ℕ → List ℕ
numbers_to zero = []
numbers_to (suc n) = numbers_to n ++ suc n ∷ []

-- the numbers of a pool
abbrev pub numbers_of : {A : Type 0} → List A → List ℕ
numbers_of pool = numbers_to (length pool)

-- ---- numbers with a rank

-- the greatest rank of the numbers, 0 of none
abbrev pub greatest : (ℕ → ℕ) → List ℕ → ℕ
greatest rank ks = fold (λ most k. max most (rank k)) 0 ks

-- the first of the numbers whose rank is greatest
abbrev pub first_of_greatest : (ℕ → ℕ) → List ℕ → Option ℕ
first_of_greatest rank ks = let most = greatest rank ks in find (λ k. rank k == most) ks

-- the number is in the list
abbrev pub is_in : ℕ → List ℕ → Bool
is_in k ks = list_any (nat_eq k) ks

-- the list without a number
abbrev pub without : ℕ → List ℕ → List ℕ
without k ks = filter (λ j. not (j == k)) ks
