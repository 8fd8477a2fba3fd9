-- Who raises whom: a thread that sleeps or waits on a condition variable raises nobody, and such a wait changes no priority.
use Rattle.std.proofs.Common.{◌≡◌, ℕ, List, fold, max, refl, sym}
use Rattle.std.specs.Prelude.{Option, Some, None, option_map, option_and_then, unwrap_or}
use Rattle.ptk_words.specs.Pools.{pool_get, pool_changed}
use Rattle.ptk_words.specs.declared.threads.Thread.{Thread}
use Rattle.ptk_words.proofs.Pools.{length-changed}
use Rattle.ptk_words_model.specs.State.{Mutex}
use Rattle.ptk_words_model.specs.Chain.{greatest_leading}
use Rattle.ptk_words_model.specs.Priority.{awaited, inheritor_of, ceiling_for, next_in_chain, held_of, effective_of}
use Rattle.ptk_words_model.specs.Schedule.{woken_with}
use Rattle.ptk_words_sync_invariant.proofs.Threads.{changed_same}

-- ---- who raises nobody

-- ---- what changes no priority

-- the assigned priority of an entry, 0 of a free number (own)
abbrev pub level_of : Option Thread → ℕ
level_of o = unwrap_or (option_map (λ (thread : Thread). thread.priority) o) 0

-- a thread changed that keeps its assigned priority, and the mutex that it waits for or that it waits for none
pub effective-changed : (t : ℕ) (f : Thread → Thread) (threads : List (Option Thread)) (mutexes : List (Option Mutex)) → level_of (option_map f (pool_get threads t)) ≡ level_of (pool_get threads t) → awaited (option_map f (pool_get threads t)) ≡ awaited (pool_get threads t)
    → effective_of (pool_changed t f threads) mutexes ≡ effective_of threads mutexes
effective-changed t f threads mutexes level waits =
    let after : List (Option Thread) = pool_changed t f threads in
    let waits_all : (u : ℕ) → awaited (pool_get after u) ≡ awaited (pool_get threads u) = changed_same awaited t f threads waits in
    let levels : (u : ℕ) → level_of (pool_get after u) ≡ level_of (pool_get threads u) = changed_same level_of t f threads level in
    let next : next_in_chain after mutexes ≡ next_in_chain threads mutexes = λ i u. option_and_then (λ m. inheritor_of (pool_get mutexes m)) (waits_all u i) in
    let held : held_of after mutexes ≡ held_of threads mutexes = λ i u. fold (λ most m. max most (ceiling_for u m)) (levels u i) mutexes in
    λ i u. greatest_leading (length-changed t f threads i) (next i) (held i) u

pub woken_awaits : (values : List ℕ) (o : Option Thread) → awaited o ≡ None → awaited (option_map (woken_with values) o) ≡ awaited o
woken_awaits values None e = refl
woken_awaits values (Some thread) e = sym e
