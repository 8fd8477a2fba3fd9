-- What effective priorities read of a thread: its assigned priority, and the mutex that it waits for.
use Rattle.std.proofs.Common.{◌≡◌, ◌≢◌, ℕ, List, length, map, fold, max, refl, sym, ◌∙◌, ap, ◌⊎◌, inl, inr, subst}
use Rattle.std.specs.Prelude.{Option, Some, None, option_map, option_and_then, unwrap_or}
use Rattle.std.proofs.lemmas.Bool.{cases_eq}
use Rattle.ptk_words.specs.Pools.{pool_get, pool_changed, numbers_to}
use Rattle.ptk_words.specs.declared.threads.Thread.{Thread}
use Rattle.ptk_words.proofs.Pools.{length-changed, changed_own, changed_other}
use Rattle.ptk_words_model.specs.State.{Mutex}
use Rattle.ptk_words_model.specs.Chain.{greatest_leading}
use Rattle.ptk_words_model.specs.Priority.{ceiling_for, held_of, awaited, inheritor_of, next_in_chain, effective_priorities}
use Rattle.ptk_words.specs.Threads.{mutex_of_wait}

-- as many threads, the same chains and the same held priorities make the same effective priorities
same_priorities : (threads after : List (Option Thread)) (mutexes others : List (Option Mutex)) → length after ≡ length threads → next_in_chain after others ≡ next_in_chain threads mutexes → held_of after others ≡ held_of threads mutexes
    → effective_priorities after others ≡ effective_priorities threads mutexes
same_priorities threads after mutexes others long next held =
    ap (λ (n : ℕ). map (greatest_leading n (next_in_chain after others) (held_of after others)) (numbers_to n)) long
    ∙ ap (λ (f : ℕ → Option ℕ). map (greatest_leading (length threads) f (held_of after others)) (numbers_to (length threads))) next
    ∙ ap (λ (f : ℕ → ℕ). map (greatest_leading (length threads) (next_in_chain threads mutexes) f) (numbers_to (length threads))) held

-- the assigned priority of an entry, 0 of a free number
abbrev pub level : Option Thread → ℕ
level x = unwrap_or (option_map (λ (thread : Thread). thread.priority) x) 0

awaited_at : (k t : ℕ) (f : Thread → Thread) (threads : List (Option Thread)) → awaited (option_map f (pool_get threads k)) ≡ awaited (pool_get threads k) → (t ≡ k) ⊎ (t ≢ k) → awaited (pool_get (pool_changed k f threads) t) ≡ awaited (pool_get threads t)
awaited_at k t f threads same (inl e) =
    subst (λ (j : ℕ). awaited (pool_get (pool_changed k f threads) j) ≡ awaited (pool_get threads j)) (sym e) (ap awaited (changed_own k f threads) ∙ same)
awaited_at k t f threads same (inr ne) = ap awaited (changed_other k t f threads ne)

level_at : (k t : ℕ) (f : Thread → Thread) (threads : List (Option Thread)) → level (option_map f (pool_get threads k)) ≡ level (pool_get threads k) → (t ≡ k) ⊎ (t ≢ k) → level (pool_get (pool_changed k f threads) t) ≡ level (pool_get threads t)
level_at k t f threads same (inl e) =
    subst (λ (j : ℕ). level (pool_get (pool_changed k f threads) j) ≡ level (pool_get threads j)) (sym e) (ap level (changed_own k f threads) ∙ same)
level_at k t f threads same (inr ne) = ap level (changed_other k t f threads ne)

-- a thread changed that keeps its assigned priority, and the mutex that it waits for
pub priorities_changed : (k : ℕ) (f : Thread → Thread) (threads : List (Option Thread)) (mutexes : List (Option Mutex)) → level (option_map f (pool_get threads k)) ≡ level (pool_get threads k) → awaited (option_map f (pool_get threads k)) ≡ awaited (pool_get threads k)
    → effective_priorities (pool_changed k f threads) mutexes ≡ effective_priorities threads mutexes
priorities_changed k f threads mutexes levels waits =
    same_priorities threads (pool_changed k f threads) mutexes mutexes (length-changed k f threads)
    (λ i t. option_and_then (λ m. inheritor_of (pool_get mutexes m)) (awaited_at k t f threads waits (cases_eq t k) i))
    (λ i t. fold (λ most m. max most (ceiling_for t m)) (level_at k t f threads levels (cases_eq t k) i) mutexes)

pub level_kept : (f : Thread → Thread) (x : Option Thread) → ((thread : Thread) → (f thread).priority ≡ thread.priority) → level (option_map f x) ≡ level x
level_kept f None keeps = refl
level_kept f (Some thread) keeps = keeps thread

pub awaited_kept : (f : Thread → Thread) (x : Option Thread) → ((thread : Thread) → mutex_of_wait (f thread).wait ≡ mutex_of_wait thread.wait) → awaited (option_map f x) ≡ awaited x
awaited_kept f None keeps = refl
awaited_kept f (Some thread) keeps = keeps thread
