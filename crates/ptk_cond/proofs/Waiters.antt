-- That waiters still wait after a wait and after one was unblocked, and whom a signal chooses.
use Rattle.std.proofs.Common.{◌≡◌, ◌≢◌, ℕ, zero, suc, List, [], ◌∷◌, ◌++◌, refl, sym, ◌∙◌, ap, subst, true, ◌⊎◌, inl, inr}
use Rattle.std.specs.Prelude.{Option, Some, None, IsSome, option_map, slice_get}
use Rattle.std.specs.Option.{option_flatten}
use Rattle.std.proofs.Math.ListN.{set}
use Rattle.std.proofs.lemmas.Bool.{cases_eq}
use Rattle.std.proofs.lemmas.Option.{same_Some}
use Rattle.ptk_words.specs.Pools.{pool_get, pool_set, is_in, without, first_of_greatest}
use Rattle.ptk_words.specs.declared.threads.Thread.{Thread}
use Rattle.ptk_words.specs.declared.threads.Wait.{Wait}
use Rattle.ptk_words.specs.declared.threads.Wait.TheVariants.{ConditionWait}
use Rattle.ptk_words.proofs.Lists.{in_push, in_without, first_in}
use Rattle.ptk_words.proofs.Pools.{changed_own, changed_other, get-set_other}
use Rattle.ptk_words_model.specs.State.{Condition, Locks, Syncs}
use Rattle.ptk_words_model.specs.Priority.{awaited, thread_at, effective_priority, effective_priorities}
use Rattle.ptk_words_model.specs.Schedule.{with_thread}
use Rattle.ptk_words_model.specs.Mutex.{mutex_at, wait_of, after_unlock, after_relock}
use Rattle.ptk_words_model.specs.Condition.{condition_waiters, mutex_of_condition_wait, after_condition_wait, after_unblock_for, waiters_on}
use Rattle.ptk_words_sync_invariant.specs.Conditions.{HasRoom}
use Rattle.ptk_words.specs.Threads.{condition_of_wait}
use Rattle.ptk_threads.specs.Table.{stored_of}
use Rattle.ptk_mutex.specs.Waiters.{condition_of}
use Rattle.ptk_mutex.specs.Tables.{AreLocked}
use Rattle.ptk_mutex.proofs.Locked.{stored_first, other_than}
use Rattle.ptk_mutex.proofs.Apart.{calm_unlock, below_unlock, apart_more, apart_thread, apart_unlock, apart_relock, kept_waiter, may_relock}
use Rattle.ptk_mutex.proofs.Awake.{awake_none, awake_other}
use Rattle.ptk_cond.specs.Tables.{IsOnCondition, AreWaiting, IsAwake, MayLeave, next_waiter}

-- ---- two waiters

-- who waits on different condition variables are different
other_waiter : (c d t k : ℕ) (locks : Locks) → IsOnCondition locks c t → IsOnCondition locks d k → d ≢ c → k ≢ t
other_waiter c d t k locks first second ne = λ same.
    let own : condition_of_wait (wait_of (thread_at locks t)) ≡ Some d = subst (λ (j : ℕ). condition_of_wait (wait_of (thread_at locks j)) ≡ Some d) same second.waits in
    ne (same_Some d c (sym own ∙ first.waits))

-- ---- the waiters of one condition variable replaced

own_entry : (k i : ℕ) (ks : List ℕ) (pool : List (Option Condition)) → is_in k (waiters_on (option_flatten (slice_get (set pool i (Some (condition_of ks))) i))) ≡ true → is_in k ks ≡ true
own_entry k i ks [] h = let no : ⊥ = cc in absurd no
own_entry k zero ks (x ∷ pool) h = h
own_entry k (suc i) ks (x ∷ pool) h = own_entry k i ks pool h

-- who then waits there is one of these
own_waiters : (k c : ℕ) (ks : List ℕ) (pool : List (Option Condition)) → is_in k (waiters_on (pool_get (pool_set pool c (Some (condition_of ks))) c)) ≡ true → is_in k ks ≡ true
own_waiters k zero ks pool h = let no : ⊥ = cc in absurd no
own_waiters k (suc i) ks pool h = own_entry k i ks pool h

other_waiters : (k c d : ℕ) (x : Option Condition) (pool : List (Option Condition)) → d ≢ c → is_in k (waiters_on (pool_get (pool_set pool c x) d)) ≡ true → is_in k (waiters_on (pool_get pool d)) ≡ true
other_waiters k c d x pool ne h = subst (λ (y : Option Condition). is_in k (waiters_on y) ≡ true) (get-set_other c d x pool ne) h

-- ---- one unblocked

unblocked_at : (t c d m k : ℕ) (reply : Option ℕ) (syncs : Syncs) → is_in t (condition_waiters syncs c) ≡ true → AreWaiting syncs → (d ≡ c) ⊎ (d ≢ c)
    → is_in k (condition_waiters (after_unblock_for t c reply (Some m) syncs) d) ≡ true → IsOnCondition (after_relock t m reply syncs.locks) d k
unblocked_at t c d m k reply syncs there waiting (inl e) h =
    let own : is_in k (waiters_on (pool_get (pool_set syncs.conditions c (Some (condition_of (without t (condition_waiters syncs c))))) c)) ≡ true =
    subst (λ (j : ℕ). is_in k (condition_waiters (after_unblock_for t c reply (Some m) syncs) j) ≡ true) e h in
    let left = in_without t k (condition_waiters syncs c) (own_waiters k c (without t (condition_waiters syncs c)) syncs.conditions own) in
    subst (λ (j : ℕ). IsOnCondition (after_relock t m reply syncs.locks) j k) (sym e)
    (kept_waiter c k syncs.locks (after_relock t m reply syncs.locks) (apart_relock t m k reply syncs.locks left.0) (waiting.waiters c k left.1))
unblocked_at t c d m k reply syncs there waiting (inr ne) h =
    let was : IsOnCondition syncs.locks d k = waiting.waiters d k (other_waiters k c d (Some (condition_of (without t (condition_waiters syncs c)))) syncs.conditions ne h) in
    let other : k ≢ t = other_waiter c d t k syncs.locks (waiting.waiters c t there) was ne in
    kept_waiter d k syncs.locks (after_relock t m reply syncs.locks) (apart_relock t m k reply syncs.locks other) was

-- a waiter that is unblocked leaves waiters that wait
pub waiting_unblock : (t c m : ℕ) (reply : Option ℕ) (syncs : Syncs) → is_in t (condition_waiters syncs c) ≡ true → AreWaiting syncs → AreWaiting (after_unblock_for t c reply (Some m) syncs)
waiting_unblock t c m reply syncs there waiting = record {
  waiters = λ d k h. unblocked_at t c d m k reply syncs there waiting (cases_eq d c) h;
}

-- ---- one that begins to wait

asleep_at : (c m : ℕ) (deadline : Option ℕ) (x : Option Thread) → IsSome x → wait_of (option_map (λ (thread : Thread). record thread { wait = Some (ConditionWait c m deadline) }) x) ≡ Some (ConditionWait c m deadline)
asleep_at c m deadline None used = let no : ⊥ = cc in absurd no
asleep_at c m deadline (Some thread) used = refl

named_same : (n m : ℕ) (wait : Option Wait) (c : ℕ) (deadline : Option ℕ) → wait ≡ Some (ConditionWait c m deadline) → mutex_of_condition_wait wait ≡ Some n → n ≡ m
named_same n m wait c deadline e named = same_Some n m (sym named ∙ ap mutex_of_condition_wait e)

-- the thread itself
sleeper_waits : (t c m : ℕ) (deadline : Option ℕ) (locks : Locks) → IsAwake locks t → AreLocked locks → IsOnCondition (with_thread t (λ thread. record thread { wait = Some (ConditionWait c m deadline) }) (after_unlock m locks)) c t
sleeper_waits t c m deadline locks may locked =
    let none : awaited (thread_at locks t) ≡ None = awake_none t locks may in
    let calm = calm_unlock m locks locked in
    let used : IsSome (thread_at (after_unlock m locks) t) = subst (λ (x : Option Thread). IsSome x) (sym (calm.threads t none)) may.used in
    let now : wait_of (thread_at (with_thread t (λ thread. record thread { wait = Some (ConditionWait c m deadline) }) (after_unlock m locks)) t) ≡ Some (ConditionWait c m deadline) =
    ap wait_of (changed_own t (λ (thread : Thread). record thread { wait = Some (ConditionWait c m deadline) }) (after_unlock m locks).threads) ∙ asleep_at c m deadline (thread_at (after_unlock m locks) t) used in
    record {
      waits = ap condition_of_wait now;
      out = calm.out t none may.out;
      room = λ n named. subst (λ (j : ℕ). HasRoom t (mutex_at (after_unlock m locks) j)) (sym (named_same n m _ c deadline now named)) (λ counts. below_unlock m locks (locked.counts m));
    }

-- a thread that waited before
sleeper_kept : (t c d m k : ℕ) (deadline : Option ℕ) (locks : Locks) → IsAwake locks t → AreLocked locks → IsOnCondition locks d k → IsOnCondition (with_thread t (λ thread. record thread { wait = Some (ConditionWait c m deadline) }) (after_unlock m locks)) d k
sleeper_kept t c d m k deadline locks may locked was =
    kept_waiter d k locks (with_thread t (λ thread. record thread { wait = Some (ConditionWait c m deadline) }) (after_unlock m locks))
    (apart_more locks (after_unlock m locks) (with_thread t (λ thread. record thread { wait = Some (ConditionWait c m deadline) }) (after_unlock m locks)) k
    (apart_unlock m k locks locked (may_relock d k locks was).awake)
    (apart_thread t k (λ (thread : Thread). record thread { wait = Some (ConditionWait c m deadline) }) (after_unlock m locks) (awake_other t d k locks may was))) was

sleeping_at : (t c d m k : ℕ) (deadline : Option ℕ) (syncs : Syncs) → IsAwake syncs.locks t → AreLocked syncs.locks → AreWaiting syncs → (d ≡ c) ⊎ (d ≢ c)
    → is_in k (condition_waiters (after_condition_wait t c m deadline syncs) d) ≡ true → IsOnCondition (after_condition_wait t c m deadline syncs).locks d k
sleeping_at t c d m k deadline syncs may locked waiting (inl e) h =
    let own : is_in k (waiters_on (pool_get (pool_set syncs.conditions c (Some (condition_of (condition_waiters syncs c ++ t ∷ [])))) c)) ≡ true =
    subst (λ (j : ℕ). is_in k (condition_waiters (after_condition_wait t c m deadline syncs) j) ≡ true) e h in
    subst (λ (j : ℕ). IsOnCondition (after_condition_wait t c m deadline syncs).locks j k) (sym e)
    (elim (in_push t k (condition_waiters syncs c) (own_waiters k c (condition_waiters syncs c ++ t ∷ []) syncs.conditions own)) as (λ _. IsOnCondition (after_condition_wait t c m deadline syncs).locks c k) [
      | inl same ↦ subst (λ (j : ℕ). IsOnCondition (after_condition_wait t c m deadline syncs).locks c j) (sym same) (sleeper_waits t c m deadline syncs.locks may locked)
      | inr old ↦ sleeper_kept t c c m k deadline syncs.locks may locked (waiting.waiters c k old)
    ])
sleeping_at t c d m k deadline syncs may locked waiting (inr ne) h =
    sleeper_kept t c d m k deadline syncs.locks may locked (waiting.waiters d k (other_waiters k c d (Some (condition_of (condition_waiters syncs c ++ t ∷ []))) syncs.conditions ne h))

-- a wait leaves waiters that wait
pub waiting_wait : (t c m : ℕ) (deadline : Option ℕ) (syncs : Syncs) → IsAwake syncs.locks t → AreLocked syncs.locks → AreWaiting syncs → AreWaiting (after_condition_wait t c m deadline syncs)
waiting_wait t c m deadline syncs may locked waiting = record {
  waiters = λ d k h. sleeping_at t c d m k deadline syncs may locked waiting (cases_eq d c) h;
}

-- and mutexes whose waiters wait
pub locked_sleep : (t : ℕ) (wait : Option Wait) (locks : Locks) → awaited (thread_at locks t) ≡ None → AreLocked locks → AreLocked (with_thread t (λ thread. record thread { wait = wait }) locks)
locked_sleep t wait locks none locked = record {
  waiters = λ n k h.
      let was = locked.waiters n k h in
      record { waits = ap awaited (changed_other t k (λ (thread : Thread). record thread { wait = wait }) locks.threads (other_than n t k locks none was)) ∙ was.waits; out = was.out; inside = h };
  counts = locked.counts;
}

-- ---- the choice

-- the stored priorities choose the next waiter
pub stored_next : (c : ℕ) (syncs : Syncs) (stored : List ℕ) → AreWaiting syncs → stored ≡ effective_priorities syncs.threads syncs.mutexes → first_of_greatest (stored_of stored) (condition_waiters syncs c) ≡ next_waiter c syncs
stored_next c syncs stored waiting e = stored_first syncs.threads syncs.mutexes stored (condition_waiters syncs c) e (λ k i. (may_relock c k syncs.locks (waiting.waiters c k i)).used)

may_leave : (c : ℕ) (syncs : Syncs) (o : Option ℕ) → next_waiter c syncs ≡ o → MayLeave o syncs c
may_leave c syncs None e = tt
may_leave c syncs (Some t) e = first_in (effective_priority syncs.locks) t (condition_waiters syncs c) e

-- who is chosen waits
pub next_may_leave : (c : ℕ) (syncs : Syncs) (o : Option ℕ) → o ≡ next_waiter c syncs → MayLeave o syncs c
next_may_leave c syncs o e = may_leave c syncs o (sym e)
