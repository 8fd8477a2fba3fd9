-- A thread changed where its wait, its joiner and its end stay.
use Rattle.std.proofs.Common.{◌≡◌, ℕ, ◌<◌, true, not, ◌&&◌, List, refl, sym, ◌∙◌, ap}
use Rattle.std.specs.Prelude.{Option, Some, None, option_map, is_none}
use Rattle.ptk_words.specs.Pools.{pool_get, pool_changed}
use Rattle.ptk_words.specs.Processor.{Processor}
use Rattle.ptk_words.specs.declared.sections.Limits.{Limits}
use Rattle.ptk_words.specs.declared.threads.Thread.{Thread}
use Rattle.ptk_words.specs.declared.threads.Policy.{Policy}
use Rattle.ptk_words.proofs.Pools.{length-changed}
use Rattle.ptk_words_model.specs.State.{Part, with_locks}
use Rattle.ptk_words_model.specs.Priority.{thread_at}
use Rattle.ptk_words_model.specs.Mutex.{wait_of}
use Rattle.ptk_words_model.specs.Schedule.{with_thread, with_reply, with_thread_used}
use Rattle.ptk_words_model.specs.Calls.{replied}
use Rattle.ptk_words_model.specs.Decision.{with_thread_cpu}
use Rattle.ptk_words_model.specs.Unwinding.{is_alive, cpu_at_call, after_routine_call}
use Rattle.ptk_words.specs.Threads.{is_ended}
use Rattle.ptk_words_sync_invariant.specs.Locks.{is_ready, joiner_of, used_of}
use Rattle.ptk_words_invariant.specs.Well.{IsWell}
use Rattle.ptk_words_sync_invariant.proofs.Lined.{lined_alike}
use Rattle.ptk_words_sync_invariant.proofs.Threads.{changed_same, used_changed}
use Rattle.ptk_words_sync_invariant.proofs.Listed.{AreSameWaits, listed_same}
use Rattle.ptk_words_invariant.proofs.Whole.{lined_of, waiting_of, well_scheduled}
use Rattle.ptk_words_invariant.proofs.Exclusion.{exclusion_waits, conditions_waits}

-- the thread has the wait and the joiner that it had, and has ended only if it had (own)
pub record IsKept (before after : Thread) : Type 0 where
  pub wait : after.wait ≡ before.wait
  pub joiner : after.joiner ≡ before.joiner
  pub ended : is_ended after.phase ≡ is_ended before.phase

-- each number has a thread of the same wait and joiner, which has ended only if that had (own)
pub record AreAlike (before after : List (Option Thread)) : Type 0 where
  pub ready : (u : ℕ) → is_ready (pool_get after u) ≡ is_ready (pool_get before u)
  pub wait : (u : ℕ) → wait_of (pool_get after u) ≡ wait_of (pool_get before u)
  pub joiner : (u : ℕ) → joiner_of (pool_get after u) ≡ joiner_of (pool_get before u)
  pub alive : (u : ℕ) → is_alive (pool_get after u) ≡ is_alive (pool_get before u)

abbrev Kept : (Thread → Thread) → Option Thread → Type 0
Kept f o = (thread : Thread) → o ≡ Some thread → IsKept thread (f thread)

ready_kept : (f : Thread → Thread) (o : Option Thread) → Kept f o → is_ready (option_map f o) ≡ is_ready o
ready_kept f None kept = refl
ready_kept f (Some thread) kept =
    let k : IsKept thread (f thread) = kept thread refl in
    ap (λ w. is_none w && not (is_ended (f thread).phase)) k.wait ∙ ap (λ b. is_none thread.wait && not b) k.ended

wait_kept : (f : Thread → Thread) (o : Option Thread) → Kept f o → wait_of (option_map f o) ≡ wait_of o
wait_kept f None kept = refl
wait_kept f (Some thread) kept = (kept thread refl).wait

joiner_kept : (f : Thread → Thread) (o : Option Thread) → Kept f o → joiner_of (option_map f o) ≡ joiner_of o
joiner_kept f None kept = refl
joiner_kept f (Some thread) kept = (kept thread refl).joiner

alive_kept : (f : Thread → Thread) (o : Option Thread) → Kept f o → is_alive (option_map f o) ≡ is_alive o
alive_kept f None kept = refl
alive_kept f (Some thread) kept = ap not (kept thread refl).ended

pub alike_changed : (t : ℕ) (f : Thread → Thread) (threads : List (Option Thread)) → ((thread : Thread) → pool_get threads t ≡ Some thread → IsKept thread (f thread)) → AreAlike threads (pool_changed t f threads)
alike_changed t f threads kept = record {
  ready = changed_same is_ready t f threads (ready_kept f (pool_get threads t) kept);
  wait = changed_same wait_of t f threads (wait_kept f (pool_get threads t) kept);
  joiner = changed_same joiner_of t f threads (joiner_kept f (pool_get threads t) kept);
  alive = changed_same is_alive t f threads (alive_kept f (pool_get threads t) kept);
}

changed_below : (n : ℕ) (f : Thread → Thread) (o : Option Thread) → used_of o < n → ((thread : Thread) → o ≡ Some thread → (f thread).used < n) → used_of (option_map f o) < n
changed_below n f None lt each = lt
changed_below n f (Some thread) lt each = each thread refl

-- the ticks used stay below the interval where those of the changed thread do
pub used_changed_at : (n t : ℕ) (f : Thread → Thread) (threads : List (Option Thread)) → ((u : ℕ) → used_of (pool_get threads u) < n) → ((thread : Thread) → pool_get threads t ≡ Some thread → (f thread).used < n)
    → (u : ℕ) → used_of (pool_get (pool_changed t f threads) u) < n
used_changed_at n t f threads each below = used_changed n t f threads (changed_below n f (pool_get threads t) (each t) below) each

-- a thread changed by f
pub well_changed : (limits : Limits) (t : ℕ) (f : Thread → Thread) (s : Part) → ((thread : Thread) → thread_at s.locks t ≡ Some thread → IsKept thread (f thread))
    → ((thread : Thread) → thread_at s.locks t ≡ Some thread → (f thread).used < limits.interval) → IsWell limits s → IsWell limits (with_locks (with_thread t f) s)
well_changed limits t f s kept below well =
    let after : List (Option Thread) = pool_changed t f s.threads in
    let alike : AreAlike s.threads after = alike_changed t f s.threads kept in
    let same : AreSameWaits s.threads after = record { wait = alike.wait; joiner = alike.joiner } in
    well_scheduled limits s after s.line s.mutexes s.running s.console.waiters (length-changed t f s.threads) refl
    (lined_alike s.threads after s.line s.running alike.ready (lined_of limits s well))
    (listed_same s.threads after s.console.waiters same (λ u e. alike.wait u ∙ well.ended_wait u (sym (alike.alive u) ∙ e)) (waiting_of limits s well))
    (exclusion_waits s.threads after s.mutexes alike.wait alike.alive well.exclusion)
    (conditions_waits s.threads after s.mutexes s.conditions alike.wait well.conditional)
    (used_changed_at limits.interval t f s.threads well.used below)
    well.halted well

used_below : (limits : Limits) (t : ℕ) (s : Part) → IsWell limits s → (thread : Thread) → thread_at s.locks t ≡ Some thread → thread.used < limits.interval
used_below limits t s well thread e = let lt : used_of (thread_at s.locks t) < limits.interval = well.used t in rw e at lt

some_below : (limits : Limits) (s : Part) → IsWell limits s → 0 < limits.interval
some_below limits s well = well.used 0

-- ---- the changes that moves make

pub well_replied : (limits : Limits) (t : ℕ) (values : List ℕ) (s : Part) → IsWell limits s → IsWell limits (replied t values s)
well_replied limits t values s well =
    well_changed limits t (with_reply values) s (λ thread e. record { wait = refl; joiner = refl; ended = refl }) (λ thread e. used_below limits t s well thread e) well

pub well_cpu : (limits : Limits) (t : ℕ) (cpu : Processor) (s : Part) → IsWell limits s → IsWell limits (with_thread_cpu t cpu s)
well_cpu limits t cpu s well =
    well_changed limits t (λ thread. record thread { cpu = cpu }) s (λ thread e. record { wait = refl; joiner = refl; ended = refl }) (λ thread e. used_below limits t s well thread e) well

pub well_routine_call : (limits : Limits) (t routine argument : ℕ) (s : Part) → IsWell limits s → IsWell limits (after_routine_call t routine argument s)
well_routine_call limits t routine argument s well =
    well_changed limits t (λ thread. record thread { cpu = cpu_at_call routine argument thread.cpu }) s (λ thread e. record { wait = refl; joiner = refl; ended = refl }) (λ thread e. used_below limits t s well thread e) well

pub well_used : (limits : Limits) (t used : ℕ) (s : Part) → used < limits.interval → IsWell limits s → IsWell limits (with_thread_used t used s)
well_used limits t used s lt well = well_changed limits t (λ thread. record thread { used = used }) s (λ thread e. record { wait = refl; joiner = refl; ended = refl }) (λ thread e. lt) well

pub well_policy : (limits : Limits) (t : ℕ) (policy : Policy) (priority : ℕ) (s : Part) → IsWell limits s
    → IsWell limits (with_locks (with_thread t (λ thread. record thread { policy = policy; priority = priority; used = 0 })) s)
well_policy limits t policy priority s well =
    well_changed limits t (λ thread. record thread { policy = policy; priority = priority; used = 0 }) s (λ thread e. record { wait = refl; joiner = refl; ended = refl }) (λ thread e. some_below limits s well) well

pub well_priority : (limits : Limits) (t priority : ℕ) (s : Part) → IsWell limits s → IsWell limits (with_locks (with_thread t (λ thread. record thread { priority = priority })) s)
well_priority limits t priority s well =
    well_changed limits t (λ thread. record thread { priority = priority }) s (λ thread e. record { wait = refl; joiner = refl; ended = refl }) (λ thread e. used_below limits t s well thread e) well

pub well_detached : (limits : Limits) (t : ℕ) (s : Part) → IsWell limits s → IsWell limits (with_locks (with_thread t (λ thread. record thread { is_detached = true })) s)
well_detached limits t s well =
    well_changed limits t (λ thread. record thread { is_detached = true }) s (λ thread e. record { wait = refl; joiner = refl; ended = refl }) (λ thread e. used_below limits t s well thread e) well
