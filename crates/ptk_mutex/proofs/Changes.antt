-- What a changed thread or mutex leaves of chains, held priorities and effective ones.
use Rattle.std.proofs.Common.{◌≡◌, ◌≢◌, ℕ, zero, suc, ◌<◌, ◌≤◌, List, [], ◌∷◌, length, map, fold, max, refl, sym, ◌∙◌, ap, arith, ◌⊎◌, inl, inr}
use Rattle.std.specs.Prelude.{Option, Some, None, IsSome, option_map, option_and_then}
use Rattle.std.proofs.lemmas.Bool.{cases_eq, cases_lt}
use Rattle.ptk_words.specs.Pools.{pool_get, pool_changed, numbers_to}
use Rattle.ptk_words.specs.declared.threads.Thread.{Thread}
use Rattle.ptk_words.proofs.Pools.{changed_own, changed_other, length-changed, get_beyond}
use Rattle.ptk_words_model.specs.State.{Mutex}
use Rattle.ptk_words_model.specs.Priority.{awaited, inheritor_of, ceiling_for, assigned_of, next_in_chain, held_of, effective_of, effective_priorities}
use Rattle.ptk_words_sync_invariant.proofs.Raising.{level_of, effective-changed}
use Rattle.ptk_words_sync_invariant.proofs.ChainLaws.{IsNumber}

-- ---- a thread in use

used_cases : (t : ℕ) (threads : List (Option Thread)) → IsSome (pool_get threads t) → (0 < t) ⊎ (t ≤ 0) → (length threads < t) ⊎ (t ≤ length threads) → IsNumber (length threads) t
used_cases t threads used (inr le) at =
    let z : t ≡ 0 = omega (arith, le) in
    let none : pool_get threads t ≡ None = ap (pool_get threads) z in cc
used_cases t threads used (inl h) (inl past) = let none : pool_get threads t ≡ None = get_beyond t threads past in cc
used_cases t threads used (inl h) (inr le) = (h, omega (arith, le))

-- a thread has a number of the pool
pub used_number : (t : ℕ) (threads : List (Option Thread)) → IsSome (pool_get threads t) → IsNumber (length threads) t
used_number t threads used = used_cases t threads used (cases_lt 0 t) (cases_lt (length threads) t)

-- ---- a mutex changed

inheritor_cases : (m j : ℕ) (f : Mutex → Mutex) (mutexes : List (Option Mutex)) → inheritor_of (option_map f (pool_get mutexes m)) ≡ inheritor_of (pool_get mutexes m) → (j ≡ m) ⊎ (j ≢ m)
    → inheritor_of (pool_get (pool_changed m f mutexes) j) ≡ inheritor_of (pool_get mutexes j)
inheritor_cases m j f mutexes e (inl same) = rw same (ap inheritor_of (changed_own m f mutexes) ∙ e)
inheritor_cases m j f mutexes e (inr ne) = ap inheritor_of (changed_other m j f mutexes ne)

led_same : (m : ℕ) (f : Mutex → Mutex) (mutexes : List (Option Mutex)) → inheritor_of (option_map f (pool_get mutexes m)) ≡ inheritor_of (pool_get mutexes m) → (o : Option ℕ)
    → option_and_then (λ j. inheritor_of (pool_get (pool_changed m f mutexes) j)) o ≡ option_and_then (λ j. inheritor_of (pool_get mutexes j)) o
led_same m f mutexes e None = refl
led_same m f mutexes e (Some j) = inheritor_cases m j f mutexes e (cases_eq j m)

-- the chains, where whom it makes inherit stays
pub next_mutex : (m w : ℕ) (f : Mutex → Mutex) (threads : List (Option Thread)) (mutexes : List (Option Mutex)) → inheritor_of (option_map f (pool_get mutexes m)) ≡ inheritor_of (pool_get mutexes m)
    → next_in_chain threads (pool_changed m f mutexes) w ≡ next_in_chain threads mutexes w
next_mutex m w f threads mutexes e = led_same m f mutexes e (awaited (pool_get threads w))

abbrev pub ceilings : ℕ → ℕ → List (Option Mutex) → ℕ
ceilings u a mutexes = fold (λ most m. max most (ceiling_for u m)) a mutexes

ceilings_at : (u a i : ℕ) (f : Mutex → Mutex) (mutexes : List (Option Mutex)) → ceiling_for u (option_map f (pool_get mutexes (suc i))) ≡ ceiling_for u (pool_get mutexes (suc i)) → ceilings u a (pool_changed (suc i) f mutexes) ≡ ceilings u a mutexes
ceilings_at u a i f [] e = refl
ceilings_at u a zero f (x ∷ mutexes) e = ap (λ c. ceilings u (max a c) mutexes) e
ceilings_at u a (suc i) f (x ∷ mutexes) e = ceilings_at u (max a (ceiling_for u x)) i f mutexes e

ceilings_mutex : (u a m : ℕ) (f : Mutex → Mutex) (mutexes : List (Option Mutex)) → ceiling_for u (option_map f (pool_get mutexes m)) ≡ ceiling_for u (pool_get mutexes m) → ceilings u a (pool_changed m f mutexes) ≡ ceilings u a mutexes
ceilings_mutex u a zero f mutexes e = refl
ceilings_mutex u a (suc i) f mutexes e = ceilings_at u a i f mutexes e

-- what a thread holds, where the ceiling that it gives the thread stays
pub held_mutex : (m u : ℕ) (f : Mutex → Mutex) (threads : List (Option Thread)) (mutexes : List (Option Mutex)) → ceiling_for u (option_map f (pool_get mutexes m)) ≡ ceiling_for u (pool_get mutexes m)
    → held_of threads (pool_changed m f mutexes) u ≡ held_of threads mutexes u
held_mutex m u f threads mutexes e = ceilings_mutex u (assigned_of threads u) m f mutexes e

-- ---- a mutex more gives a ceiling

pub ceilings_max : (u a c : ℕ) (mutexes : List (Option Mutex)) → ceilings u (max a c) mutexes ≡ max (ceilings u a mutexes) c
ceilings_max u a c [] = refl
ceilings_max u a c (x ∷ mutexes) =
    let turn : max (max a c) (ceiling_for u x) ≡ max (max a (ceiling_for u x)) c = omega arith in
    ap (λ n. ceilings u n mutexes) turn ∙ ceilings_max u (max a (ceiling_for u x)) c mutexes

gain_at : (u a c i : ℕ) (f : Mutex → Mutex) (mutexes : List (Option Mutex)) → ceiling_for u (option_map f (pool_get mutexes (suc i))) ≡ 0 → ceiling_for u (pool_get mutexes (suc i)) ≡ c
    → ceilings u a mutexes ≡ max (ceilings u a (pool_changed (suc i) f mutexes)) c
gain_at u a c i f [] e h = let z : c ≡ 0 = sym h in rw z (omega arith)
gain_at u a c zero f (x ∷ mutexes) e h =
    let none : max a (ceiling_for u (option_map f x)) ≡ a = rw e (omega arith) in
    ap (λ n. ceilings u (max a n) mutexes) h ∙ ceilings_max u a c mutexes ∙ ap (λ n. max (ceilings u n mutexes) c) (sym none)
gain_at u a c (suc i) f (x ∷ mutexes) e h = gain_at u (max a (ceiling_for u x)) c i f mutexes e h

-- where f takes the ceiling away, the thread holds that much without it
pub held_gain : (u c m : ℕ) (f : Mutex → Mutex) (threads : List (Option Thread)) (mutexes : List (Option Mutex)) → ceiling_for u (option_map f (pool_get mutexes m)) ≡ 0 → ceiling_for u (pool_get mutexes m) ≡ c
    → held_of threads mutexes u ≡ max (held_of threads (pool_changed m f mutexes) u) c
held_gain u c zero f threads mutexes e h = let z : c ≡ 0 = sym h in rw z (omega arith)
held_gain u c (suc i) f threads mutexes e h = gain_at u (assigned_of threads u) c i f mutexes e h

-- ---- a thread changed

-- the priorities, where its assigned one stays, and the mutex that it waits for or that it waits for none
pub effective_thread : (t : ℕ) (f : Thread → Thread) (threads : List (Option Thread)) (mutexes : List (Option Mutex)) → level_of (option_map f (pool_get threads t)) ≡ level_of (pool_get threads t) → awaited (option_map f (pool_get threads t)) ≡ awaited (pool_get threads t)
    → effective_priorities (pool_changed t f threads) mutexes ≡ effective_priorities threads mutexes
effective_thread t f threads mutexes level waits =
    let same : effective_of (pool_changed t f threads) mutexes ≡ effective_of threads mutexes = effective-changed t f threads mutexes level waits in
    λ i. map (same i) (numbers_to (length-changed t f threads i))
