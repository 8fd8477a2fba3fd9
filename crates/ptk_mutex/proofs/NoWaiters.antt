-- Who is no waiter stays none, where lists of waiters stay.
use Rattle.std.proofs.Common.{◌≡◌, ◌≢◌, ℕ, List, refl, ◌∙◌, ap, Bool, true, false, ◌⊎◌, inl, inr}
use Rattle.std.specs.Prelude.{Option, Some, None, option_map}
use Rattle.std.proofs.lemmas.Bool.{cases_eq}
use Rattle.ptk_words.specs.Pools.{pool_get, pool_changed, is_in}
use Rattle.ptk_words.specs.declared.threads.Wait.{Wait}
use Rattle.ptk_words.proofs.Pools.{changed_own, changed_other}
use Rattle.ptk_words.specs.Parts.{part_of}
use Rattle.ptk_words_model.specs.declared.LockMove.{LockMove}
use Rattle.ptk_words_model.specs.declared.LockMove.TheVariants.{Takes, Recovers, Counts, Waits, Refuses}
use Rattle.ptk_words_model.specs.State.{Mutex, Condition, Locks}
use Rattle.ptk_words_model.specs.Priority.{awaited, thread_at}
use Rattle.ptk_words_model.specs.Mutex.{mutex_at, waiters_of, after_move, is_waiting}
use Rattle.ptk_words_sync_invariant.specs.Conditions.{IsNoWaiter}
use Rattle.ptk_words_sync_invariant.proofs.Threads.{none_awaits}
use Rattle.ptk_threads.proofs.Pools.{part_of-set}
use Rattle.ptk_roster.specs.declared.slot.Change.TheVariants.{Take, CountUp}
use Rattle.ptk_roster.specs.Changes.{mutex_changed}
use Rattle.ptk_roster.specs.Rosters.{Rostered}
use Rattle.ptk_mutex.specs.Tables.{locks_by, put_locks, HasPartBy, AreLocked}

-- ---- a thread that waits for no mutex

out_by : (t m : ℕ) (locks : Locks) → awaited (thread_at locks t) ≡ None → AreLocked locks → (b : Bool) → is_in t (waiters_of (mutex_at locks m)) ≡ b → is_in t (waiters_of (mutex_at locks m)) ≡ false
out_by t m locks awake locked true e = absurd (none_awaits m (thread_at locks t) awake (locked.waiters m t e).waits)
out_by t m locks awake locked false e = e

-- is among no mutex's waiters
pub out_of_mutex : (t m : ℕ) (locks : Locks) → awaited (thread_at locks t) ≡ None → AreLocked locks → is_in t (waiters_of (mutex_at locks m)) ≡ false
out_of_mutex t m locks awake locked = out_by t m locks awake locked (is_in t (waiters_of (mutex_at locks m))) refl

-- ---- a mutex changed

entry_waiters : (f : Mutex → Mutex) (x : Option Mutex) → ((y : Mutex) → (f y).waiters ≡ y.waiters) → waiters_of (option_map f x) ≡ waiters_of x
entry_waiters f None keeps = refl
entry_waiters f (Some x) keeps = keeps x

waiters_cases : (m n : ℕ) (f : Mutex → Mutex) (mutexes : List (Option Mutex)) → ((y : Mutex) → (f y).waiters ≡ y.waiters) → (n ≡ m) ⊎ (n ≢ m) → waiters_of (pool_get (pool_changed m f mutexes) n) ≡ waiters_of (pool_get mutexes n)
waiters_cases m n f mutexes keeps (inl same) = rw same (ap waiters_of (changed_own m f mutexes) ∙ entry_waiters f (pool_get mutexes m) keeps)
waiters_cases m n f mutexes keeps (inr ne) = ap waiters_of (changed_other m n f mutexes ne)

-- all waiters, where f leaves them
pub changed_waiters : (m n : ℕ) (f : Mutex → Mutex) (mutexes : List (Option Mutex)) → ((y : Mutex) → (f y).waiters ≡ y.waiters) → waiters_of (pool_get (pool_changed m f mutexes) n) ≡ waiters_of (pool_get mutexes n)
changed_waiters m n f mutexes keeps = waiters_cases m n f mutexes keeps (cases_eq n m)

-- then who is none stays none
pub no_waiter-changed : (t m : ℕ) (f : Mutex → Mutex) (mutexes : List (Option Mutex)) (conditions : List (Option Condition)) → ((y : Mutex) → (f y).waiters ≡ y.waiters) → IsNoWaiter t mutexes conditions → IsNoWaiter t (pool_changed m f mutexes) conditions
no_waiter-changed t m f mutexes conditions keeps none = record {
  of_mutexes = λ n. ap (is_in t) (changed_waiters m n f mutexes keeps) ∙ none.of_mutexes n;
  of_conditions = λ c. none.of_conditions c;
}

-- ---- a move

-- that begins no wait
no_waiter-move : (made : LockMove) (t m : ℕ) (wait : Wait) (locks : Locks) (conditions : List (Option Condition)) → is_waiting made ≡ false → IsNoWaiter t locks.mutexes conditions → IsNoWaiter t (after_move made t m wait locks).mutexes conditions
no_waiter-move Takes t m wait locks conditions e none = no_waiter-changed t m (mutex_changed (Take t)) locks.mutexes conditions (λ y. refl) none
no_waiter-move Recovers t m wait locks conditions e none = no_waiter-changed t m (mutex_changed (Take t)) locks.mutexes conditions (λ y. refl) none
no_waiter-move Counts t m wait locks conditions e none = no_waiter-changed t m (mutex_changed CountUp) locks.mutexes conditions (λ y. refl) none
no_waiter-move Waits t m wait locks conditions e none = cc
no_waiter-move (Refuses error) t m wait locks conditions e none = none

-- a thread that made it is still no waiter
pub made_free : (made : LockMove) (p t m : ℕ) (wait : Wait) (a b : Rostered) → HasPartBy p a.table a.lines a.mutexes → is_waiting made ≡ false
    → b ≡ put_locks p (after_move made t m wait (locks_by p a.table a.lines a.mutexes)) a → IsNoWaiter t (part_of a.mutexes p) (part_of a.conditions p) → IsNoWaiter t (part_of b.mutexes p) (part_of b.conditions p)
made_free made p t m wait a b has e moved none =
    let after : Locks = after_move made t m wait (locks_by p a.table a.lines a.mutexes) in
    let kept : IsNoWaiter t after.mutexes (part_of a.conditions p) = no_waiter-move made t m wait (locks_by p a.table a.lines a.mutexes) (part_of a.conditions p) e none in
    rw (moved, part_of-set a.mutexes p after.mutexes has.of_mutexes) kept
