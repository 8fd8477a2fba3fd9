-- The mutexes and the condition variables agree with the threads still, where one thread changed that awaits what it did.
use Rattle.std.proofs.Common.{◌≡◌, ℕ, true, false, List, sym, ◌∙◌, ap, inl, inr}
use Rattle.std.specs.Prelude.{Option, Some, None}
use Rattle.std.proofs.lemmas.Bool.{cases_eq, false≢true, false_from_ne_true}
use Rattle.ptk_words.specs.Pools.{pool_get}
use Rattle.ptk_words.specs.declared.threads.Thread.{Thread}
use Rattle.ptk_words.specs.declared.threads.Wait.{Wait}
use Rattle.ptk_words_model.specs.State.{Mutex, Condition}
use Rattle.ptk_words_model.specs.Priority.{awaited}
use Rattle.ptk_words.specs.Threads.{mutex_of_wait}
use Rattle.ptk_words_model.specs.Mutex.{wait_of, owns}
use Rattle.ptk_words_model.specs.Unwinding.{is_alive}
use Rattle.ptk_words_sync_invariant.specs.Locks.{AreMutexes}
use Rattle.ptk_words_sync_invariant.specs.Conditions.{AreConditions}
use Rattle.ptk_words_sync_invariant.proofs.Lined.{AreOthers}
use Rattle.ptk_words_sync_invariant.proofs.Threads.{awaits_by}
use Rattle.ptk_words_sync_invariant.proofs.Exclusion.{exclusion_kept, exclusion_same}
use Rattle.ptk_words_sync_invariant.proofs.Conditions.{conditions_same, same_on_waits}

-- ---- what a thread awaits

-- a thread whose wait is for no mutex awaits none
pub awaits_other : (wait : Wait) (o : Option Thread) → mutex_of_wait (Some wait) ≡ None → wait_of o ≡ Some wait → awaited o ≡ None
awaits_other wait o other e = awaits_by o ∙ ap mutex_of_wait e ∙ other

-- threads of the same wait await the same mutex
awaited_alike : (before after : Option Thread) → wait_of after ≡ wait_of before → awaited after ≡ awaited before
awaited_alike before after e = awaits_by after ∙ ap mutex_of_wait e ∙ sym (awaits_by before)

-- ---- the threads changed

-- each thread has the wait that it had, and has ended only if it had
pub exclusion_waits : (threads after : List (Option Thread)) (mutexes : List (Option Mutex)) → ((u : ℕ) → wait_of (pool_get after u) ≡ wait_of (pool_get threads u))
    → ((u : ℕ) → is_alive (pool_get after u) ≡ is_alive (pool_get threads u)) → AreMutexes threads mutexes → AreMutexes after mutexes
exclusion_waits threads after mutexes waits alive are =
    exclusion_same threads after mutexes (λ u. awaited_alike (pool_get threads u) (pool_get after u) (waits u)) alive are

-- so the condition variables agree with them still
pub conditions_waits : (threads after : List (Option Thread)) (mutexes : List (Option Mutex)) (conditions : List (Option Condition)) → ((u : ℕ) → wait_of (pool_get after u) ≡ wait_of (pool_get threads u))
    → AreConditions threads mutexes conditions → AreConditions after mutexes conditions
conditions_waits threads after mutexes conditions waits are = conditions_same threads after mutexes conditions (same_on_waits threads after waits) are

-- one thread is another, which awaits what that did, and which has ended only if it owns no mutex
pub exclusion_one : (t : ℕ) (threads after : List (Option Thread)) (mutexes : List (Option Mutex)) → AreOthers t threads after → awaited (pool_get after t) ≡ awaited (pool_get threads t)
    → ((m : ℕ) → owns t (pool_get mutexes m) ≡ true → is_alive (pool_get after t) ≡ true) → AreMutexes threads mutexes → AreMutexes after mutexes
exclusion_one t threads after mutexes others same alive are =
    exclusion_kept threads after mutexes
    (λ u. elim (cases_eq u t) [ inl one ↦ (rw one same) | inr ne ↦ ap awaited (others u ne) ])
    (λ m u e. elim (cases_eq u t) [
      | inl one ↦ ap (λ v. is_alive (pool_get after v)) one ∙ alive m (ap (λ v. owns v (pool_get mutexes m)) (sym one) ∙ e)
      | inr ne ↦ ap is_alive (others u ne) ∙ are.owners_alive m u e
    ]) are

-- an ended thread owns no mutex
pub ended_owns : (t : ℕ) (threads : List (Option Thread)) (mutexes : List (Option Mutex)) → is_alive (pool_get threads t) ≡ false → AreMutexes threads mutexes → (m : ℕ) → owns t (pool_get mutexes m) ≡ false
ended_owns t threads mutexes dead are m = false_from_ne_true (owns t (pool_get mutexes m)) (λ e. false≢true (sym dead ∙ are.owners_alive m t e))

-- one thread that owns no mutex is another, which awaits what that did
pub exclusion_unowning : (t : ℕ) (threads after : List (Option Thread)) (mutexes : List (Option Mutex)) → AreOthers t threads after → awaited (pool_get after t) ≡ awaited (pool_get threads t)
    → ((m : ℕ) → owns t (pool_get mutexes m) ≡ false) → AreMutexes threads mutexes → AreMutexes after mutexes
exclusion_unowning t threads after mutexes others same none are = exclusion_one t threads after mutexes others same (λ m e. absurd (false≢true (sym (none m) ∙ e))) are
