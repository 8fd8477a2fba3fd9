-- That effective priorities stay where a thread that waits for no mutex begins to wait for none.
use Rattle.std.proofs.Common.{◌≡◌, ℕ, ◌<◌, List, length, map, max, refl, sym, ◌∙◌, ap}
use Rattle.std.specs.Prelude.{Option, Some, None, option_map, option_and_then, unwrap_or, fold}
use Rattle.std.proofs.lemmas.List.{set-set}
use Rattle.ptk_words.specs.Pools.{pool_get, pool_changed, numbers_of, numbers_to}
use Rattle.ptk_words.specs.declared.threads.Thread.{Thread}
use Rattle.ptk_words.specs.declared.threads.Wait.{Wait}
use Rattle.ptk_words.proofs.Pools.{length-changed}
use Rattle.ptk_words_model.specs.State.{Locks, Mutex}
use Rattle.ptk_words_model.specs.Chain.{greatest_leading}
use Rattle.ptk_words_model.specs.Priority.{awaited, thread_at, ceiling_for, held_of, inheritor_of, next_in_chain, effective_priorities}
use Rattle.ptk_words.specs.Threads.{mutex_of_wait}
use Rattle.ptk_words_model.specs.Schedule.{with_thread}
use Rattle.ptk_threads.specs.Table.{ThreadTable, with_changed, with_wait}
use Rattle.ptk_threads.proofs.Pools.{part_of-set}
use Rattle.ptk_mutex.specs.Tables.{with_threads}
use Rattle.ptk_words_sync_invariant.proofs.MutexPlaces.{pool_set_same}

-- ---- a thread that waits for no mutex, before and after

unawaited_entry : (wait : Option Wait) (x : Option Thread) → mutex_of_wait wait ≡ None → awaited x ≡ None → awaited (option_map (with_wait wait) x) ≡ awaited x
unawaited_entry wait None e none = refl
unawaited_entry wait (Some thread) e none = e ∙ sym none

assigned_entry : (wait : Option Wait) (x : Option Thread) → unwrap_or (option_map (λ (thread : Thread). thread.priority) (option_map (with_wait wait) x)) 0 ≡ unwrap_or (option_map (λ (thread : Thread). thread.priority) x) 0
assigned_entry wait None = refl
assigned_entry wait (Some thread) = refl

next_asleep : (t k : ℕ) (wait : Option Wait) (threads : List (Option Thread)) (mutexes : List (Option Mutex)) → mutex_of_wait wait ≡ None → awaited (pool_get threads t) ≡ None → next_in_chain (pool_changed t (with_wait wait) threads) mutexes k ≡ next_in_chain threads mutexes k
next_asleep t k wait threads mutexes e none =
    ap (option_and_then (λ (m : ℕ). inheritor_of (pool_get mutexes m))) (pool_set_same awaited threads t k (option_map (with_wait wait) (pool_get threads t)) (unawaited_entry wait (pool_get threads t) e none))

held_asleep : (t k : ℕ) (wait : Option Wait) (threads : List (Option Thread)) (mutexes : List (Option Mutex)) → held_of (pool_changed t (with_wait wait) threads) mutexes k ≡ held_of threads mutexes k
held_asleep t k wait threads mutexes =
    ap (λ (most : ℕ). fold (λ most m. max most (ceiling_for k m)) most mutexes)
    (pool_set_same (λ (x : Option Thread). unwrap_or (option_map (λ (thread : Thread). thread.priority) x) 0) threads t k (option_map (with_wait wait) (pool_get threads t)) (assigned_entry wait (pool_get threads t)))

effective_asleep : (t : ℕ) (wait : Option Wait) (threads : List (Option Thread)) (mutexes : List (Option Mutex)) → mutex_of_wait wait ≡ None → awaited (pool_get threads t) ≡ None → effective_priorities (pool_changed t (with_wait wait) threads) mutexes ≡ effective_priorities threads mutexes
effective_asleep t wait threads mutexes e none =
    let now : List (Option Thread) = pool_changed t (with_wait wait) threads in
    let next : next_in_chain now mutexes ≡ next_in_chain threads mutexes = λ i k. next_asleep t k wait threads mutexes e none i in
    let held : held_of now mutexes ≡ held_of threads mutexes = λ i k. held_asleep t k wait threads mutexes i in
    ap (λ (n : ℕ). map (greatest_leading n (next_in_chain now mutexes) (held_of now mutexes)) (numbers_to n)) (length-changed t (with_wait wait) threads)
    ∙ ap (λ (f : ℕ → Option ℕ). map (greatest_leading (length threads) f (held_of now mutexes)) (numbers_of threads)) next
    ∙ ap (λ (f : ℕ → ℕ). map (greatest_leading (length threads) (next_in_chain threads mutexes) f) (numbers_of threads)) held

-- the slot table after such a wait began
pub asleep-is : (p t : ℕ) (wait : Option Wait) (locks : Locks) (table : ThreadTable) → p < length table.threads → mutex_of_wait wait ≡ None → awaited (thread_at locks t) ≡ None
    → with_changed p t (with_wait wait) (with_threads p locks table) ≡ with_threads p (with_thread t (λ thread. record thread { wait = wait }) locks) table
asleep-is p t wait locks table lt e none =
    rw (part_of-set table.threads p locks.threads lt, set-set, ← effective_asleep t wait locks.threads locks.mutexes e none) refl
