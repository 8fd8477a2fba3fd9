-- One mutex in another's place: what stays of the pool and of priorities.
use Rattle.std.proofs.Common.{◌≡◌, ℕ, zero, suc, List, [], ◌∷◌, length, max, refl, ap}
use Rattle.std.specs.Prelude.{Option, Some, None, option_and_then, slice_get, fold}
use Rattle.std.specs.Option.{option_flatten}
use Rattle.std.proofs.Math.ListN.{set}
use Rattle.ptk_words.specs.Pools.{pool_get, pool_set}
use Rattle.ptk_words.specs.declared.threads.Thread.{Thread}
use Rattle.ptk_words_model.specs.State.{Mutex}
use Rattle.ptk_words_model.specs.Chain.{greatest_leading}
use Rattle.ptk_words_model.specs.Priority.{awaited, ceiling_for, inheritor_of, assigned_of, held_of, next_in_chain, effective_of}

-- ---- one entry set

-- what f reads of each entry, where it reads the same of the new one
set_same : {A B : Type 0} (f : Option A → B) (pool : List (Option A)) (i j : ℕ) (x : Option A) → f x ≡ f (option_flatten (slice_get pool i)) → f (option_flatten (slice_get (set pool i x) j)) ≡ f (option_flatten (slice_get pool j))
set_same f [] i j x e = refl
set_same f (y ∷ pool) zero zero x e = e
set_same f (y ∷ pool) zero (suc j) x e = refl
set_same f (y ∷ pool) (suc i) zero x e = refl
set_same f (y ∷ pool) (suc i) (suc j) x e = set_same f pool i j x e

pub pool_set_same : {A B : Type 0} (f : Option A → B) (pool : List (Option A)) (m n : ℕ) (x : Option A) → f x ≡ f (pool_get pool m) → f (pool_get (pool_set pool m x) n) ≡ f (pool_get pool n)
pool_set_same f pool zero n x e = refl
pool_set_same f pool (suc i) zero x e = refl
pool_set_same f pool (suc i) (suc j) x e = set_same f pool i j x e

-- ---- priorities

ceilings_set : (t i most : ℕ) (mutexes : List (Option Mutex)) (x : Option Mutex) → ceiling_for t x ≡ ceiling_for t (option_flatten (slice_get mutexes i))
    → fold (λ most m. max most (ceiling_for t m)) most (set mutexes i x) ≡ fold (λ most m. max most (ceiling_for t m)) most mutexes
ceilings_set t i most [] x e = refl
ceilings_set t zero most (y ∷ mutexes) x e = ap (λ (c : ℕ). fold (λ most m. max most (ceiling_for t m)) (max most c) mutexes) e
ceilings_set t (suc i) most (y ∷ mutexes) x e = ceilings_set t i (max most (ceiling_for t y)) mutexes x e

held_set : (threads : List (Option Thread)) (mutexes : List (Option Mutex)) (m t : ℕ) (x : Option Mutex) → ceiling_for t x ≡ ceiling_for t (pool_get mutexes m) → held_of threads (pool_set mutexes m x) t ≡ held_of threads mutexes t
held_set threads mutexes zero t x e = refl
held_set threads mutexes (suc i) t x e = ceilings_set t i (assigned_of threads t) mutexes x e

next_same : (f g : ℕ → Option ℕ) (o : Option ℕ) → ((n : ℕ) → f n ≡ g n) → option_and_then f o ≡ option_and_then g o
next_same f g None h = refl
next_same f g (Some n) h = h n

next_set : (threads : List (Option Thread)) (mutexes : List (Option Mutex)) (m t : ℕ) (x : Option Mutex) → inheritor_of x ≡ inheritor_of (pool_get mutexes m) → next_in_chain threads (pool_set mutexes m x) t ≡ next_in_chain threads mutexes t
next_set threads mutexes m t x e =
    next_same (λ n. inheritor_of (pool_get (pool_set mutexes m x) n)) (λ n. inheritor_of (pool_get mutexes n)) (awaited (pool_get threads t)) (λ n. pool_set_same inheritor_of mutexes m n x e)

-- a mutex in another's place to which each thread has the same ceiling, and whose waiters raise the same thread, changes no priority (pthread_mutexattr_getprotocol)
pub effective-set : (m : ℕ) (x : Option Mutex) (threads : List (Option Thread)) (mutexes : List (Option Mutex)) → inheritor_of x ≡ inheritor_of (pool_get mutexes m) → ((u : ℕ) → ceiling_for u x ≡ ceiling_for u (pool_get mutexes m))
    → effective_of threads (pool_set mutexes m x) ≡ effective_of threads mutexes
effective-set m x threads mutexes inherits ceilings =
    let next : next_in_chain threads (pool_set mutexes m x) ≡ next_in_chain threads mutexes = λ i t. next_set threads mutexes m t x inherits i in
    let held : held_of threads (pool_set mutexes m x) ≡ held_of threads mutexes = λ i t. held_set threads mutexes m t x (ceilings t) i in
    λ i u. greatest_leading (length threads) (next i) (held i) u
