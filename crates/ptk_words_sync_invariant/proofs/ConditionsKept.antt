-- The moves of threads that wait on no condition variable leave the condition variables whole: console, join, creation, a thread's end, changes of a thread.
use Rattle.std.proofs.Common.{◌≡◌, ℕ, true, List, [], refl, sym, ◌∙◌, ap}
use Rattle.std.specs.Prelude.{Option, Some, None, option_map}
use Rattle.ptk_words.specs.Pools.{pool_get, pool_set, pool_changed, is_in}
use Rattle.ptk_words.specs.declared.threads.Thread.{Thread}
use Rattle.ptk_words.specs.declared.threads.Wait.TheVariants.{InputWait, JoinWait}
use Rattle.ptk_words.proofs.Pools.{each_set}
use Rattle.ptk_words.proofs.Lists.{none_distinct}
use Rattle.ptk_words_model.specs.State.{Mutex, Condition}
use Rattle.ptk_words_model.specs.Mutex.{wait_of}
use Rattle.ptk_words_sync_invariant.specs.Locks.{is_ready}
use Rattle.ptk_words_model.specs.Condition.{waiters_on}
use Rattle.ptk_words_sync_invariant.specs.Conditions.{AreConditions}
use Rattle.ptk_words.specs.Threads.{condition_of_wait}
use Rattle.ptk_words_sync_invariant.proofs.Threads.{changed_same, in_wait}
use Rattle.ptk_words_sync_invariant.proofs.Conditions.{waits_on, names, off_names, AreSameOn, conditions_same, same_on_waits}
use Rattle.ptk_words_sync_invariant.proofs.Timed.{conditions_blocked}

-- ---- changes of a thread

-- a thread changed whose wait stays: a reply, registers, a policy, a priority, ticks used, its detaching, the start of its unwinding
pub conditions_changed : (t : ℕ) (f : Thread → Thread) (threads : List (Option Thread)) (mutexes : List (Option Mutex)) (conditions : List (Option Condition)) → wait_of (option_map f (pool_get threads t)) ≡ wait_of (pool_get threads t)
    → AreConditions threads mutexes conditions → AreConditions (pool_changed t f threads) mutexes conditions
conditions_changed t f threads mutexes conditions same are =
    conditions_same threads (pool_changed t f threads) mutexes conditions (same_on_waits threads (pool_changed t f threads) (changed_same wait_of t f threads same)) are

same_set : (t : ℕ) (o : Option Thread) (threads : List (Option Thread)) → waits_on (pool_get threads t) ≡ None → waits_on o ≡ None → AreSameOn threads (pool_set threads t o)
same_set t o threads was now = record {
  on = each_set (λ (u : ℕ) (x : Option Thread). waits_on x ≡ waits_on (pool_get threads u)) t o threads (now ∙ sym was) (λ u. refl);
  named = each_set (λ (u : ℕ) (x : Option Thread). names x ≡ names (pool_get threads u)) t o threads (off_names (wait_of o) now ∙ sym (off_names (wait_of (pool_get threads t)) was)) (λ u. refl);
}

-- a number is taken by a thread that waits for nothing, or gets free of one (pthread_create, pthread_join)
pub conditions_placed : (t : ℕ) (o : Option Thread) (threads : List (Option Thread)) (mutexes : List (Option Mutex)) (conditions : List (Option Condition)) → wait_of (pool_get threads t) ≡ None → wait_of o ≡ None
    → AreConditions threads mutexes conditions → AreConditions (pool_set threads t o) mutexes conditions
conditions_placed t o threads mutexes conditions was now are =
    conditions_same threads (pool_set threads t o) mutexes conditions (same_set t o threads (ap condition_of_wait was) (ap condition_of_wait now)) are

-- a new thread at a free number (pthread_create)
pub conditions_created : (t : ℕ) (thread : Thread) (threads : List (Option Thread)) (mutexes : List (Option Mutex)) (conditions : List (Option Condition)) → pool_get threads t ≡ None → thread.wait ≡ None
    → AreConditions threads mutexes conditions → AreConditions (pool_set threads t (Some thread)) mutexes conditions
conditions_created t thread threads mutexes conditions free now are = conditions_placed t (Some thread) threads mutexes conditions (ap wait_of free) now are

-- ---- the console

-- the running thread begins to wait for input
pub conditions_input : (t : ℕ) (threads : List (Option Thread)) (mutexes : List (Option Mutex)) (conditions : List (Option Condition)) → is_ready (pool_get threads t) ≡ true → AreConditions threads mutexes conditions
    → AreConditions (pool_changed t (in_wait InputWait) threads) mutexes conditions
conditions_input t threads mutexes conditions ready are = conditions_blocked t InputWait threads mutexes conditions ready refl are

-- ---- joins

-- the thread with this joiner (own)
abbrev pub joined_with : ℕ → Thread → Thread
joined_with t thread = record thread { joiner = Some t }

pub joined_waits : (t : ℕ) (o : Option Thread) → wait_of (option_map (joined_with t) o) ≡ wait_of o
joined_waits t None = refl
joined_waits t (Some thread) = refl

pub joined_ready : (t : ℕ) (o : Option Thread) → is_ready (option_map (joined_with t) o) ≡ is_ready o
joined_ready t None = refl
joined_ready t (Some thread) = refl

-- the running thread begins to wait for the end of u (pthread_join)
pub conditions_join : (t u : ℕ) (threads : List (Option Thread)) (mutexes : List (Option Mutex)) (conditions : List (Option Condition)) → is_ready (pool_get threads t) ≡ true → AreConditions threads mutexes conditions
    → AreConditions (pool_changed t (in_wait (JoinWait u)) (pool_changed u (joined_with t) threads)) mutexes conditions
conditions_join t u threads mutexes conditions ready are =
    conditions_blocked t (JoinWait u) (pool_changed u (joined_with t) threads) mutexes conditions (changed_same is_ready u (joined_with t) threads (joined_ready t (pool_get threads u)) t ∙ ready) refl
    (conditions_changed u (joined_with t) threads mutexes conditions (joined_waits t (pool_get threads u)) are)

-- ---- the end of a thread

-- ---- where nobody waits on a condition variable

-- as at the start of a partition
pub conditions_none : (threads : List (Option Thread)) (mutexes : List (Option Mutex)) (conditions : List (Option Condition)) → ((t : ℕ) → waits_on (pool_get threads t) ≡ None) → ((c : ℕ) → waiters_on (pool_get conditions c) ≡ [])
    → AreConditions threads mutexes conditions
conditions_none threads mutexes conditions off empty = record {
  waiters_wait = λ c t e. absurd (let out : is_in t [] ≡ true = ap (is_in t) (sym (empty c)) ∙ e in let no : ⊥ = cc in no);
  waits_listed = λ c t e. absurd (let none : waits_on (pool_get threads t) ≡ None = off t in let no : ⊥ = cc in no);
  waiters_distinct = λ c. rw (empty c) none_distinct;
  named_used = λ t m e. absurd (let none : names (pool_get threads t) ≡ None = off_names (wait_of (pool_get threads t)) (off t) in let no : ⊥ = cc in no);
  room = λ t m e. absurd (let none : names (pool_get threads t) ≡ None = off_names (wait_of (pool_get threads t)) (off t) in let no : ⊥ = cc in no);
}
