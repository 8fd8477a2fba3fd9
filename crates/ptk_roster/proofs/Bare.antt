-- What reads no waiters is the same of a mutex whatever its waiters are, and of a partition's mutexes without them.
use Rattle.std.proofs.Common.{◌≡◌, ℕ, zero, suc, ◌+◌, not, ◌&&◌, ◌||◌, List, [], ◌∷◌, length, map, max, refl, ◌∙◌, ap}
use Rattle.std.specs.Prelude.{fold, Option, Some, None, option_map, option_and_then, is_none, slice_get, position}
use Rattle.std.specs.Option.{option_flatten}
use Rattle.std.specs.List.{prefix_len, list_any}
use Rattle.std.proofs.lemmas.List.{length-map}
use Rattle.ptk_words.specs.Pools.{pool_get, least_free, numbers_of}
use Rattle.ptk_words.specs.declared.threads.Thread.{Thread}
use Rattle.ptk_words_model.specs.Chain.{greatest_leading}
use Rattle.ptk_words_model.specs.State.{Mutex, Locks, locks_of}
use Rattle.ptk_words_model.specs.Priority.{is_owner, awaited, assigned_of, inheritor_of, ceiling_for, held_of, next_in_chain, effective_of, effective_priorities}
use Rattle.ptk_words_model.specs.Mutex.{is_raising, lock_move, trylock_move, relock_move, owns, is_raising_for, soundness_of, count_of}
use Rattle.ptk_roster.specs.declared.slot.Change.{Change}
use Rattle.ptk_roster.specs.declared.slot.Change.TheVariants.{Take, CountUp, CountDown, Release, Abandon, Mark}
use Rattle.ptk_roster.specs.Slots.{with_waiters, bare, state_of, is_robust_at}
use Rattle.ptk_roster.specs.Changes.{mutex_changed, SlotMayChange}
use Rattle.ptk_roster.specs.Plain.{is_takeable}

-- ---- waiters

pub waiters_twice : (v w : List ℕ) (x : Option Mutex) → with_waiters v (with_waiters w x) ≡ with_waiters v x
waiters_twice v w None = refl
waiters_twice v w (Some m) = refl

-- ---- one mutex

pub is_none-waiters : (w : List ℕ) (x : Option Mutex) → is_none (with_waiters w x) ≡ is_none x
is_none-waiters w None = refl
is_none-waiters w (Some m) = refl

pub state_of-waiters : (w : List ℕ) (x : Option Mutex) → option_map state_of (with_waiters w x) ≡ option_map state_of x
state_of-waiters w None = refl
state_of-waiters w (Some m) = refl

-- a lock reads the thread's assigned priority alone
pub lock_move-waiters : (locks : Locks) (mutexes : List (Option Mutex)) (t : ℕ) (w : List ℕ) (x : Option Mutex) → lock_move (locks_of locks.threads mutexes) t (with_waiters w x) ≡ lock_move locks t x
lock_move-waiters locks mutexes t w None = refl
lock_move-waiters locks mutexes t w (Some m) = refl

pub trylock_move-waiters : (locks : Locks) (mutexes : List (Option Mutex)) (t : ℕ) (w : List ℕ) (x : Option Mutex) → trylock_move (locks_of locks.threads mutexes) t (with_waiters w x) ≡ trylock_move locks t x
trylock_move-waiters locks mutexes t w None = refl
trylock_move-waiters locks mutexes t w (Some m) = refl

pub relock_move-waiters : (t : ℕ) (w : List ℕ) (x : Option Mutex) → relock_move t (with_waiters w x) ≡ relock_move t x
relock_move-waiters t w None = refl
relock_move-waiters t w (Some m) = refl

pub owns-waiters : (t : ℕ) (w : List ℕ) (x : Option Mutex) → owns t (with_waiters w x) ≡ owns t x
owns-waiters t w None = refl
owns-waiters t w (Some m) = refl

pub is_raising_for-waiters : (t : ℕ) (w : List ℕ) (x : Option Mutex) → is_raising_for t (with_waiters w x) ≡ is_raising_for t x
is_raising_for-waiters t w None = refl
is_raising_for-waiters t w (Some m) = refl

pub soundness_of-waiters : (w : List ℕ) (x : Option Mutex) → soundness_of (with_waiters w x) ≡ soundness_of x
soundness_of-waiters w None = refl
soundness_of-waiters w (Some m) = refl

pub count_of-waiters : (w : List ℕ) (x : Option Mutex) → count_of (with_waiters w x) ≡ count_of x
count_of-waiters w None = refl
count_of-waiters w (Some m) = refl

pub is_robust_at-waiters : (w : List ℕ) (x : Option Mutex) → is_robust_at (with_waiters w x) ≡ is_robust_at x
is_robust_at-waiters w None = refl
is_robust_at-waiters w (Some m) = refl

pub is_takeable-waiters : (w : List ℕ) (x : Option Mutex) → is_takeable (with_waiters w x) ≡ is_takeable x
is_takeable-waiters w None = refl
is_takeable-waiters w (Some m) = refl

pub inheritor_of-waiters : (w : List ℕ) (x : Option Mutex) → inheritor_of (with_waiters w x) ≡ inheritor_of x
inheritor_of-waiters w None = refl
inheritor_of-waiters w (Some m) = refl

pub ceiling_for-waiters : (t : ℕ) (w : List ℕ) (x : Option Mutex) → ceiling_for t (with_waiters w x) ≡ ceiling_for t x
ceiling_for-waiters t w None = refl
ceiling_for-waiters t w (Some m) = refl

-- ---- a change

pub changed-waiters : (change : Change) (w : List ℕ) (x : Option Mutex) → option_map (mutex_changed change) (with_waiters w x) ≡ with_waiters w (option_map (mutex_changed change) x)
changed-waiters change w None = refl
changed-waiters (Take t) w (Some m) = refl
changed-waiters CountUp w (Some m) = refl
changed-waiters CountDown w (Some m) = refl
changed-waiters Release w (Some m) = refl
changed-waiters Abandon w (Some m) = refl
changed-waiters (Mark soundness) w (Some m) = refl

pub may_change-waiters : (change : Change) (w : List ℕ) (x : Option Mutex) → SlotMayChange change (with_waiters w x) → SlotMayChange change x
may_change-waiters change w None h = h
may_change-waiters (Take t) w (Some m) h = h
may_change-waiters CountUp w (Some m) h = h
may_change-waiters CountDown w (Some m) h = h
may_change-waiters Release w (Some m) h = h
may_change-waiters Abandon w (Some m) h = h
may_change-waiters (Mark soundness) w (Some m) h = h

-- ---- a partition's mutexes

flat_bare : (pool : List (Option Mutex)) (i : ℕ) → option_flatten (slice_get (map bare pool) i) ≡ bare (option_flatten (slice_get pool i))
flat_bare [] i = refl
flat_bare (x ∷ pool) zero = refl
flat_bare (x ∷ pool) (suc i) = flat_bare pool i

pub pool_get-bare : (pool : List (Option Mutex)) (m : ℕ) → pool_get (map bare pool) m ≡ bare (pool_get pool m)
pool_get-bare pool zero = refl
pool_get-bare pool (suc i) = flat_bare pool i

prefix_bare : (pool : List (Option Mutex)) → prefix_len (λ x. not (is_none x)) (map bare pool) ≡ prefix_len (λ x. not (is_none x)) pool
prefix_bare [] = refl
prefix_bare (None ∷ pool) = refl
prefix_bare (Some m ∷ pool) = ap (λ n. 1 + n) (prefix_bare pool)

free_bare : (pool : List (Option Mutex)) → position is_none (map bare pool) ≡ position is_none pool
free_bare pool = rw (length-map pool bare, prefix_bare pool) refl

pub least_free-bare : (pool : List (Option Mutex)) → least_free (map bare pool) ≡ least_free pool
least_free-bare pool = ap (option_map suc) (free_bare pool)

pub owns_raising-bare : (pool : List (Option Mutex)) (t : ℕ) → list_any (is_raising_for t) (map bare pool) ≡ list_any (is_raising_for t) pool
owns_raising-bare [] t = refl
owns_raising-bare (None ∷ pool) t = owns_raising-bare pool t
owns_raising-bare (Some m ∷ pool) t = ap (λ b. (is_owner t m.owner && is_raising m.protocol) || b) (owns_raising-bare pool t)

ceilings_bare : (t most : ℕ) (pool : List (Option Mutex)) → fold (λ most m. max most (ceiling_for t m)) most (map bare pool) ≡ fold (λ most m. max most (ceiling_for t m)) most pool
ceilings_bare t most [] = refl
ceilings_bare t most (x ∷ pool) = ap (λ (c : ℕ). fold (λ most m. max most (ceiling_for t m)) (max most c) (map bare pool)) (ceiling_for-waiters t [] x) ∙ ceilings_bare t (max most (ceiling_for t x)) pool

pub held_of-bare : (threads : List (Option Thread)) (pool : List (Option Mutex)) (t : ℕ) → held_of threads (map bare pool) t ≡ held_of threads pool t
held_of-bare threads pool t = ceilings_bare t (assigned_of threads t) pool

next_bare : (pool : List (Option Mutex)) (o : Option ℕ) → option_and_then (λ m. inheritor_of (pool_get (map bare pool) m)) o ≡ option_and_then (λ m. inheritor_of (pool_get pool m)) o
next_bare pool None = refl
next_bare pool (Some m) = ap inheritor_of (pool_get-bare pool m) ∙ inheritor_of-waiters [] (pool_get pool m)

pub next_in_chain-bare : (threads : List (Option Thread)) (pool : List (Option Mutex)) (t : ℕ) → next_in_chain threads (map bare pool) t ≡ next_in_chain threads pool t
next_in_chain-bare threads pool t = next_bare pool (awaited (pool_get threads t))

pub effective_of-bare : (threads : List (Option Thread)) (pool : List (Option Mutex)) → effective_of threads (map bare pool) ≡ effective_of threads pool
effective_of-bare threads pool =
    let next : next_in_chain threads (map bare pool) ≡ next_in_chain threads pool = λ i t. next_in_chain-bare threads pool t i in
    let held : held_of threads (map bare pool) ≡ held_of threads pool = λ i t. held_of-bare threads pool t i in
    λ i u. greatest_leading (length threads) (next i) (held i) u

pub effective_priorities-bare : (threads : List (Option Thread)) (pool : List (Option Mutex)) → effective_priorities threads (map bare pool) ≡ effective_priorities threads pool
effective_priorities-bare threads pool = ap (λ f. map f (numbers_of threads)) (effective_of-bare threads pool)

pub ruleset bares = (lock_move-waiters, trylock_move-waiters, relock_move-waiters, owns-waiters, is_raising_for-waiters, soundness_of-waiters, count_of-waiters, is_robust_at-waiters, is_takeable-waiters, inheritor_of-waiters, ceiling_for-waiters, is_none-waiters, state_of-waiters, pool_get-bare, least_free-bare, effective_priorities-bare)
