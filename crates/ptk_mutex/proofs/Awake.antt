-- A thread that is awake waits for no mutex, and is among no waiters.
use Rattle.std.proofs.Common.{◌≡◌, ◌≢◌, ℕ, refl, ap, subst, true, false}
use Rattle.std.specs.Prelude.{Bool, Some, None}
use Rattle.ptk_words.specs.Pools.{is_in}
use Rattle.ptk_words_model.specs.State.{Locks, Syncs}
use Rattle.ptk_words_model.specs.Priority.{awaited, thread_at}
use Rattle.ptk_words_model.specs.Mutex.{wait_of}
use Rattle.ptk_words_model.specs.Condition.{condition_waiters}
use Rattle.ptk_words_sync_invariant.specs.Conditions.{IsNoWaiter}
use Rattle.ptk_words.specs.Threads.{condition_of_wait}
use Rattle.ptk_words_sync_invariant.proofs.Threads.{idle_awaits}
use Rattle.ptk_mutex.specs.Tables.{AreLocked}
use Rattle.ptk_mutex.specs.Sound.{AreWaiting, IsOnCondition, IsAwake}
use Rattle.ptk_mutex.proofs.NoWaiters.{out_of_mutex}

-- who is awake waits for no mutex
pub awake_none : (t : ℕ) (locks : Locks) → IsAwake locks t → awaited (thread_at locks t) ≡ None
awake_none t locks may = idle_awaits (thread_at locks t) may.awake

pub awake_other : (t d k : ℕ) (locks : Locks) → IsAwake locks t → IsOnCondition locks d k → k ≢ t
awake_other t d k locks may was = λ same.
    let own : condition_of_wait (wait_of (thread_at locks t)) ≡ Some d = subst (λ (j : ℕ). condition_of_wait (wait_of (thread_at locks j)) ≡ Some d) same was.waits in
    let none : condition_of_wait (wait_of (thread_at locks t)) ≡ None = ap condition_of_wait may.awake in
    let no : ⊥ = cc in no

-- who is awake is among no waiters
out_by : (t c : ℕ) (syncs : Syncs) → IsAwake syncs.locks t → AreWaiting syncs → (b : Bool) → is_in t (condition_waiters syncs c) ≡ b → is_in t (condition_waiters syncs c) ≡ false
out_by t c syncs may waiting true e = absurd (awake_other t c t syncs.locks may (waiting.waiters c t e) refl)
out_by t c syncs may waiting false e = e

pub awake_free : (t : ℕ) (syncs : Syncs) → IsAwake syncs.locks t → AreLocked syncs.locks → AreWaiting syncs → IsNoWaiter t syncs.mutexes syncs.conditions
awake_free t syncs may locked waiting = record {
  of_mutexes = λ m. out_of_mutex t m syncs.locks (awake_none t syncs.locks may) locked;
  of_conditions = λ c. out_by t c syncs may waiting (is_in t (condition_waiters syncs c)) refl;
}
