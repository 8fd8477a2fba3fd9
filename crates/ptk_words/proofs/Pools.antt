-- Pools: what a number has after a change of it or of another, and the numbers that are free or in use.
use Rattle.std.proofs.Common.{◌≡◌, ℕ, zero, suc, ◌<◌, ◌≤◌, List, [], ◌∷◌, length, replicate, refl, sym, ap, subst, arith, ◌⊎◌, inl, inr, ◌-◌, true, get_or}
use Rattle.std.specs.Prelude.{◌≢◌, Option, Some, None, option_map, unwrap_or, slice_get, slice_set, IsSome, is_none, position}
use Rattle.std.specs.Option.{option_flatten}
use Rattle.std.proofs.lemmas.Bool.{cases_eq}
use Rattle.std.proofs.lemmas.List.{length-set}
use Rattle.std.proofs.lemmas.Option.{slice_get_within}
use Rattle.std.proofs.Math.ListN.{set}
use Rattle.std.proofs.lemmas.List.Quantifiers.{position-Some}
use Rattle.ptk_words.specs.Pools.{numbered, pool_get, pool_set, pool_changed, pool_update, least_free}
use Rattle.ptk_words.specs.declared.threads.Thread.{Thread}

-- ---- one entry of a list set

get-set_own_at : {A : Type 0} (i : ℕ) (a : A) (xs : List A) → i < length xs → slice_get (slice_set xs i a) i ≡ Some a
get-set_own_at i a [] lt = absurd (omega (arith, lt))
get-set_own_at zero a (x ∷ xs) lt = refl
get-set_own_at (suc i) a (x ∷ xs) lt = get-set_own_at i a xs (omega (arith, lt))

get-set_other_at : {A : Type 0} (i j : ℕ) (a : A) (xs : List A) → j ≢ i → slice_get (slice_set xs i a) j ≡ slice_get xs j
get-set_other_at i j a [] ne = refl
get-set_other_at zero zero a (x ∷ xs) ne = absurd (ne refl)
get-set_other_at zero (suc j) a (x ∷ xs) ne = refl
get-set_other_at (suc i) zero a (x ∷ xs) ne = refl
get-set_other_at (suc i) (suc j) a (x ∷ xs) ne = get-set_other_at i j a xs (λ e. ne (ap suc e))

pub numbered-set_own : {A : Type 0} (k : ℕ) (a : A) (xs : List A) → 0 < k → k ≤ length xs → numbered (pool_set xs k a) k ≡ Some a
numbered-set_own zero a xs h le = absurd (omega (arith, h))
numbered-set_own (suc i) a xs h le = get-set_own_at i a xs (omega (arith, le))

pub numbered-set_other : {A : Type 0} (k j : ℕ) (a : A) (xs : List A) → j ≢ k → numbered (pool_set xs k a) j ≡ numbered xs j
numbered-set_other zero j a xs ne = refl
numbered-set_other (suc i) zero a xs ne = refl
numbered-set_other (suc i) (suc j) a xs ne = get-set_other_at i j a xs (λ e. ne (ap suc e))

pub length-pool_set : {A : Type 0} (xs : List A) (k : ℕ) (a : A) → length (pool_set xs k a) ≡ length xs
length-pool_set xs zero a = refl
length-pool_set xs (suc i) a = length-set xs i a

-- ---- one entry of a pool set

pub get-set_own : {A : Type 0} (k : ℕ) (o : Option A) (pool : List (Option A)) → 0 < k → k ≤ length pool → pool_get (pool_set pool k o) k ≡ o
get-set_own k o pool h le = ap option_flatten (numbered-set_own k o pool h le)

pub get-set_other : {A : Type 0} (k j : ℕ) (o : Option A) (pool : List (Option A)) → j ≢ k → pool_get (pool_set pool k o) j ≡ pool_get pool j
get-set_other k j o pool ne = ap option_flatten (numbered-set_other k j o pool ne)

free_own_at : {A : Type 0} (i : ℕ) (pool : List (Option A)) → option_flatten (slice_get (slice_set pool i None) i) ≡ None
free_own_at i [] = refl
free_own_at zero (x ∷ pool) = refl
free_own_at (suc i) (x ∷ pool) = free_own_at i pool

-- a number whose entry is taken is free
pub free_own : {A : Type 0} (k : ℕ) (pool : List (Option A)) → pool_get (pool_set pool k None) k ≡ None
free_own zero pool = refl
free_own (suc i) pool = free_own_at i pool

set_either_at : {A : Type 0} (i : ℕ) (o : Option A) (pool : List (Option A)) → (option_flatten (slice_get (slice_set pool i o) i) ≡ o) ⊎ (option_flatten (slice_get (slice_set pool i o) i) ≡ option_flatten (slice_get pool i))
set_either_at i o [] = inr refl
set_either_at zero o (x ∷ pool) = inl refl
set_either_at (suc i) o (x ∷ pool) = set_either_at i o pool

-- a number whose entry is set has it, or is none of the pool
pub set_either : {A : Type 0} (k : ℕ) (o : Option A) (pool : List (Option A)) → (pool_get (pool_set pool k o) k ≡ o) ⊎ (pool_get (pool_set pool k o) k ≡ pool_get pool k)
set_either zero o pool = inr refl
set_either (suc i) o pool = set_either_at i o pool

set_own_has : {A : Type 0} (P : ℕ → Option A → Type 0) (k : ℕ) (o : Option A) (pool : List (Option A)) → P k o → P k (pool_get pool k) → P k (pool_get (pool_set pool k o) k)
set_own_has P k o pool own was = elim (set_either k o pool) [
  | inl new ↦ subst (P k) (sym new) own
  | inr same ↦ subst (P k) (sym same) was
]

-- what holds of each number's entry, and of the one set, holds of each after it
pub each_set : {A : Type 0} (P : ℕ → Option A → Type 0) (k : ℕ) (o : Option A) (pool : List (Option A)) → P k o → ((j : ℕ) → P j (pool_get pool j)) → (j : ℕ) → P j (pool_get (pool_set pool k o) j)
each_set P k o pool own each j = elim (cases_eq j k) [
  | inl same ↦ subst (λ (i : ℕ). P i (pool_get (pool_set pool k o) i)) (sym same) (set_own_has P k o pool own (each k))
  | inr ne ↦ subst (P j) (sym (get-set_other k j o pool ne)) (each j)
]

-- a place past the end has no entry
pub entry_past : {A : Type 0} (pool : List (Option A)) (i : ℕ) → length pool ≤ i → option_flatten (slice_get pool i) ≡ None
entry_past [] i past = refl
entry_past (x ∷ pool) zero past = absurd (omega (arith, past))
entry_past (x ∷ pool) (suc i) past = entry_past pool i (omega (arith, past))

-- a number above the pool's length has no entry
pub get_beyond : {A : Type 0} (k : ℕ) (pool : List (Option A)) → length pool < k → pool_get pool k ≡ None
get_beyond zero pool lt = refl
get_beyond (suc i) pool lt = entry_past pool i (omega (arith, lt))

-- ---- one entry of a pool changed

changed_own_at : {A : Type 0} (i : ℕ) (f : A → A) (pool : List (Option A)) → pool_get (pool_changed (suc i) f pool) (suc i) ≡ option_map f (pool_get pool (suc i))
changed_own_at i f [] = refl
changed_own_at zero f (x ∷ pool) = refl
changed_own_at (suc i) f (x ∷ pool) = changed_own_at i f pool

pub changed_own : {A : Type 0} (k : ℕ) (f : A → A) (pool : List (Option A)) → pool_get (pool_changed k f pool) k ≡ option_map f (pool_get pool k)
changed_own zero f pool = refl
changed_own (suc i) f pool = changed_own_at i f pool

pub changed_other : {A : Type 0} (k j : ℕ) (f : A → A) (pool : List (Option A)) → j ≢ k → pool_get (pool_changed k f pool) j ≡ pool_get pool j
changed_other k j f pool ne = get-set_other k j (option_map f (pool_get pool k)) pool ne

-- what holds of each other number's entry, and of the one changed, holds of each after it
pub each_changed : {A : Type 0} (P : ℕ → Option A → Type 0) (k : ℕ) (f : A → A) (pool : List (Option A)) → P k (option_map f (pool_get pool k)) → ((j : ℕ) → j ≢ k → P j (pool_get pool j)) → (j : ℕ) → P j (pool_get (pool_changed k f pool) j)
each_changed P k f pool own others j = elim (cases_eq j k) [
  | inl same ↦ subst (λ (i : ℕ). P i (pool_get (pool_changed k f pool) i)) (sym same) (subst (P k) (sym (changed_own k f pool)) own)
  | inr ne ↦ subst (P j) (sym (changed_other k j f pool ne)) (others j ne)
]

pub length-changed : {A : Type 0} (k : ℕ) (f : A → A) (pool : List (Option A)) → length (pool_changed k f pool) ≡ length pool
length-changed k f pool = length-pool_set pool k (option_map f (pool_get pool k))

map_twice : {A : Type 0} (f g : A → A) (o : Option A) → option_map f (option_map g o) ≡ option_map (λ a. f (g a)) o
map_twice f g None = refl
map_twice f g (Some a) = refl

changed_twice_at : {A : Type 0} (i : ℕ) (f g : A → A) (pool : List (Option A)) → pool_changed (suc i) f (pool_changed (suc i) g pool) ≡ pool_changed (suc i) (λ a. f (g a)) pool
changed_twice_at i f g [] = refl
changed_twice_at zero f g (x ∷ pool) = ap (λ y. y ∷ pool) (map_twice f g x)
changed_twice_at (suc i) f g (x ∷ pool) = ap (λ rest. x ∷ rest) (changed_twice_at i f g pool)

pub changed_twice : {A : Type 0} (k : ℕ) (f g : A → A) (pool : List (Option A)) → pool_changed k f (pool_changed k g pool) ≡ pool_changed k (λ a. f (g a)) pool
changed_twice zero f g pool = refl
changed_twice (suc i) f g pool = changed_twice_at i f g pool

-- ---- one entry of a list updated

numbered_within : {A : Type 0} (xs : List A) (k : ℕ) (a : A) → numbered xs k ≡ Some a → (0 < k) × (k ≤ length xs)
numbered_within xs zero a e = absurd (let no : ⊥ = cc in no)
numbered_within xs (suc i) a e = let lt : i < length xs = slice_get_within xs i a e in (omega arith, omega (arith, lt))

update_own_at : {A : Type 0} (xs : List A) (k : ℕ) (f : A → A) (o : Option A) → numbered xs k ≡ o → numbered (unwrap_or (option_map (λ a. pool_set xs k (f a)) o) xs) k ≡ option_map f o
update_own_at xs k f None e = e
update_own_at xs k f (Some a) e = let w = numbered_within xs k a e in numbered-set_own k (f a) xs w.0 w.1

pub update_own : {A : Type 0} (xs : List A) (k : ℕ) (f : A → A) → numbered (pool_update xs k f) k ≡ option_map f (numbered xs k)
update_own xs k f = update_own_at xs k f (numbered xs k) refl

update_other_at : {A : Type 0} (xs : List A) (k j : ℕ) (f : A → A) (o : Option A) → j ≢ k → numbered (unwrap_or (option_map (λ a. pool_set xs k (f a)) o) xs) j ≡ numbered xs j
update_other_at xs k j f None ne = refl
update_other_at xs k j f (Some a) ne = numbered-set_other k j (f a) xs ne

pub update_other : {A : Type 0} (xs : List A) (k j : ℕ) (f : A → A) → j ≢ k → numbered (pool_update xs k f) j ≡ numbered xs j
update_other xs k j f ne = update_other_at xs k j f (numbered xs k) ne

length-update_at : {A : Type 0} (xs : List A) (k : ℕ) (f : A → A) (o : Option A) → length (unwrap_or (option_map (λ a. pool_set xs k (f a)) o) xs) ≡ length xs
length-update_at xs k f None = refl
length-update_at xs k f (Some a) = length-pool_set xs k (f a)

pub length-update : {A : Type 0} (xs : List A) (k : ℕ) (f : A → A) → length (pool_update xs k f) ≡ length xs
length-update xs k f = length-update_at xs k f (numbered xs k)

-- ---- lists of one value

get-replicate_at : {A : Type 0} (n i : ℕ) (a : A) (b : A) → slice_get (replicate n a) i ≡ Some b → b ≡ a
get-replicate_at zero i a b e = cc
get-replicate_at (suc n) zero a b e = cc
get-replicate_at (suc n) (suc i) a b e = get-replicate_at n i a b e

pub numbered-replicate : {A : Type 0} (n k : ℕ) (a : A) (b : A) → numbered (replicate n a) k ≡ Some b → b ≡ a
numbered-replicate n zero a b e = cc
numbered-replicate n (suc i) a b e = get-replicate_at n i a b e

free_at : {A : Type 0} (n i : ℕ) → option_flatten {T = A} (slice_get (replicate n None) i) ≡ None
free_at zero i = refl
free_at (suc n) zero = refl
free_at (suc n) (suc i) = free_at n i

-- in a pool where every number is free, each is
pub get-replicate : {A : Type 0} (n k : ℕ) → pool_get {A = A} (replicate n None) k ≡ None
get-replicate n zero = refl
get-replicate n (suc i) = free_at n i

-- ---- an entry, as the code reads and writes it

pub pool_set_below : {A : Type 0} (pool : List A) (k : ℕ) (a : A) → 0 < k → pool_set pool k a ≡ slice_set pool (k - 1) a
pool_set_below pool zero a h = absurd (omega (arith, h))
pool_set_below pool (suc i) a h = let e : suc i - 1 ≡ i = omega arith in rw e refl

-- an entry set to what it is
set_to_own : {A : Type 0} (xs : List A) (i : ℕ) (a : A) → slice_get xs i ≡ Some a → slice_set xs i a ≡ xs
set_to_own [] i a e = refl
set_to_own (x ∷ xs) zero a e = let same : x ≡ a = cc in ap (λ y. y ∷ xs) (sym same)
set_to_own (x ∷ xs) (suc i) a e = ap (λ ys. x ∷ ys) (set_to_own xs i a e)

pub pool_set_to_own : {A : Type 0} (xs : List A) (k : ℕ) (a : A) → numbered xs k ≡ Some a → pool_set xs k a ≡ xs
pool_set_to_own xs zero a e = refl
pool_set_to_own xs (suc i) a e = set_to_own xs i a e

-- ---- what all entries are

set_all : {A : Type 0} (P : Option A → Type 0) (pool : List (Option A)) (i j : ℕ) (x : Option A) → P x → P (option_flatten (slice_get pool j)) → P (option_flatten (slice_get (set pool i x) j))
set_all P [] i j x own h = h
set_all P (y ∷ pool) zero zero x own h = own
set_all P (y ∷ pool) zero (suc j) x own h = h
set_all P (y ∷ pool) (suc i) zero x own h = h
set_all P (y ∷ pool) (suc i) (suc j) x own h = set_all P pool i j x own h

-- what holds of an entry and of the one set holds of it afterwards
pub pool_set_all : {A : Type 0} (P : Option A → Type 0) (pool : List (Option A)) (m n : ℕ) (x : Option A) → P x → P (pool_get pool n) → P (pool_get (pool_set pool m x) n)
pool_set_all P pool zero n x own h = h
pool_set_all P pool (suc i) zero x own h = h
pool_set_all P pool (suc i) (suc j) x own h = set_all P pool i j x own h

-- ---- the least free number is free

free_place : {A : Type 0} (pool : List (Option A)) (i : ℕ) → is_none (get_or pool i None) ≡ true → option_flatten (slice_get pool i) ≡ None
free_place [] i e = refl
free_place (None ∷ pool) zero e = refl
free_place (Some m ∷ pool) zero e = cc
free_place (x ∷ pool) (suc i) e = free_place pool i e

place_of : (o : Option ℕ) (i : ℕ) → option_map suc o ≡ Some (suc i) → o ≡ Some i
place_of None i e = cc
place_of (Some j) i e = cc

pub least_free_none : {A : Type 0} (pool : List (Option A)) (m : ℕ) → least_free pool ≡ Some m → pool_get pool m ≡ None
least_free_none pool zero e = refl
least_free_none pool (suc i) e = free_place pool i (position-Some is_none pool i None (place_of (position is_none pool) i e)).1

-- ---- threads in use

-- a place in use is one of the pool's
pub used_at : (i : ℕ) (threads : List (Option Thread)) → IsSome (option_flatten (slice_get threads i)) → i < length threads
used_at i [] used = absurd (cc used)
used_at zero (x ∷ threads) used = omega arith
used_at (suc i) (x ∷ threads) used = let rest : i < length threads = used_at i threads used in omega (arith, rest)

-- and so is a number in use
pub used_number : (t : ℕ) (threads : List (Option Thread)) → IsSome (pool_get threads t) → (0 < t) × (t ≤ length threads)
used_number zero threads used = absurd (cc used)
used_number (suc i) threads used = let rest : i < length threads = used_at i threads used in (omega arith, omega (arith, rest))
