-- Threads that are in no list of waiters: whom a mutex or a condition variable lists waits for it, so no other thread is listed.
use Rattle.std.proofs.Common.{◌≡◌, ℕ, true, List, refl, ◌∙◌, ap}
use Rattle.std.specs.Prelude.{Option, Some, None}
use Rattle.std.proofs.lemmas.Bool.{false_from_ne_true}
use Rattle.ptk_words.specs.Pools.{pool_get, least_free, is_in}
use Rattle.ptk_words.specs.declared.sections.Limits.{Limits}
use Rattle.ptk_words.specs.declared.threads.Thread.{Thread}
use Rattle.ptk_words.specs.declared.threads.Wait.{Wait}
use Rattle.ptk_words.specs.declared.threads.Wait.TheVariants.{InputWait, SleepWait, JoinWait}
use Rattle.ptk_words_model.specs.State.{Mutex, Condition, Part}
use Rattle.ptk_words_model.specs.Priority.{thread_at}
use Rattle.ptk_words.specs.Threads.{mutex_of_wait, condition_of_wait}
use Rattle.ptk_words_model.specs.Mutex.{wait_of, waiters_of}
use Rattle.ptk_words_sync_invariant.specs.Locks.{AreMutexes}
use Rattle.ptk_words_model.specs.Condition.{waiters_on}
use Rattle.ptk_words_sync_invariant.specs.Conditions.{AreConditions}
use Rattle.ptk_words_sync_invariant.proofs.Lined.{ready_waits}
use Rattle.ptk_words_sync_invariant.proofs.Threads.{awaits_wait}
use Rattle.ptk_words_invariant.specs.Well.{IsWell}
use Rattle.ptk_words_invariant.proofs.Starts.{IsFree, least_free_is}
use Rattle.ptk_words_sync_invariant.specs.Conditions.{IsNoWaiter}

-- ---- by its wait

-- a thread whose wait names no mutex to have and no condition variable
pub no_waiter : (t : ℕ) (wait : Option Wait) (threads : List (Option Thread)) (mutexes : List (Option Mutex)) (conditions : List (Option Condition)) → AreMutexes threads mutexes → AreConditions threads mutexes conditions
    → wait_of (pool_get threads t) ≡ wait → mutex_of_wait wait ≡ None → condition_of_wait wait ≡ None → IsNoWaiter t mutexes conditions
no_waiter t wait threads mutexes conditions exclusion conditional is awaits_none waits_on_none = record {
  of_mutexes = λ m. false_from_ne_true (is_in t (waiters_of (pool_get mutexes m)))
      (λ listed.
      (let names : mutex_of_wait (wait_of (pool_get threads t)) ≡ Some m = awaits_wait m (pool_get threads t) (exclusion.waiters_wait m t listed) in
      let none : mutex_of_wait (wait_of (pool_get threads t)) ≡ None = ap mutex_of_wait is ∙ awaits_none in
      let no : ⊥ = cc in
      no));
  of_conditions = λ c. false_from_ne_true (is_in t (waiters_on (pool_get conditions c)))
      (λ listed.
      (let names : condition_of_wait (wait_of (pool_get threads t)) ≡ Some c = conditional.waiters_wait c t listed in
      let none : condition_of_wait (wait_of (pool_get threads t)) ≡ None = ap condition_of_wait is ∙ waits_on_none in
      let no : ⊥ = cc in
      no));
}

-- so of a whole state
waits_elsewhere : (limits : Limits) (t : ℕ) (wait : Option Wait) (s : Part) → IsWell limits s → wait_of (thread_at s.locks t) ≡ wait → mutex_of_wait wait ≡ None → condition_of_wait wait ≡ None → IsNoWaiter t s.mutexes s.conditions
waits_elsewhere limits t wait s well is awaits_none waits_on_none = no_waiter t wait s.threads s.mutexes s.conditions well.exclusion well.conditional is awaits_none waits_on_none

-- one that waits for nothing
pub idle_apart : (limits : Limits) (t : ℕ) (s : Part) → IsWell limits s → wait_of (thread_at s.locks t) ≡ None → IsNoWaiter t s.mutexes s.conditions
idle_apart limits t s well is = waits_elsewhere limits t None s well is refl refl

-- one that waits for input
pub reader_apart : (limits : Limits) (t : ℕ) (s : Part) → IsWell limits s → wait_of (thread_at s.locks t) ≡ Some InputWait → IsNoWaiter t s.mutexes s.conditions
reader_apart limits t s well is = waits_elsewhere limits t (Some InputWait) s well is refl refl

-- one that sleeps
pub sleeper_apart : (limits : Limits) (t deadline : ℕ) (s : Part) → IsWell limits s → wait_of (thread_at s.locks t) ≡ Some (SleepWait deadline) → IsNoWaiter t s.mutexes s.conditions
sleeper_apart limits t deadline s well is = waits_elsewhere limits t (Some (SleepWait deadline)) s well is refl refl

-- one that waits for the end of another
pub joiner_apart : (limits : Limits) (t u : ℕ) (s : Part) → IsWell limits s → wait_of (thread_at s.locks t) ≡ Some (JoinWait u) → IsNoWaiter t s.mutexes s.conditions
joiner_apart limits t u s well is = waits_elsewhere limits t (Some (JoinWait u)) s well is refl refl

-- ---- by its place

-- the running thread
pub runner_apart : (limits : Limits) (t : ℕ) (s : Part) → IsWell limits s → s.running ≡ Some t → IsNoWaiter t s.mutexes s.conditions
runner_apart limits t s well runs = idle_apart limits t s well (ready_waits (thread_at s.locks t) (well.running_ready t runs))

-- one of the line
pub lined_apart : (limits : Limits) (t : ℕ) (s : Part) → IsWell limits s → is_in t s.line ≡ true → IsNoWaiter t s.mutexes s.conditions
lined_apart limits t s well lined = idle_apart limits t s well (ready_waits (thread_at s.locks t) (well.line_ready t lined))

-- a number that is free
pub free_apart : (limits : Limits) (t : ℕ) (s : Part) → IsWell limits s → least_free s.threads ≡ Some t → IsNoWaiter t s.mutexes s.conditions
free_apart limits t s well free =
    let found : IsFree s.threads t = least_free_is s.threads t free in
    idle_apart limits t s well (ap wait_of found.free)

-- ---- in another state

-- mutexes and condition variables are the same
pub still_apart : (t : ℕ) (mutexes after : List (Option Mutex)) (conditions left : List (Option Condition)) → IsNoWaiter t mutexes conditions → after ≡ mutexes → left ≡ conditions → IsNoWaiter t after left
still_apart t mutexes after conditions left apart e f = rw (e, f) apart
