-- One thread changed: what stays, what a thread is that waits, for a mutex above all, and what it is once woken.
use Rattle.std.proofs.Common.{◌≡◌, ℕ, ◌<◌, true, false, not, ◌&&◌, List, refl, sym, ◌∙◌, ap, inl, inr}
use Rattle.std.specs.Prelude.{◌≢◌, Option, Some, None, IsSome, option_map, is_none}
use Rattle.std.proofs.lemmas.Bool.{cases_eq, false≢true, false_from_ne_true, true_from_ne_false}
use Rattle.ptk_words.specs.Pools.{pool_get, pool_changed}
use Rattle.ptk_words.specs.Threads.{is_ended, mutex_of_wait}
use Rattle.ptk_words.specs.declared.threads.Thread.{Thread}
use Rattle.ptk_words.specs.declared.threads.Wait.{Wait}
use Rattle.ptk_words.proofs.Pools.{each_changed, changed_own, changed_other}
use Rattle.ptk_words_model.specs.declared.LockMove.{LockMove}
use Rattle.ptk_words_model.specs.Priority.{awaited}
use Rattle.ptk_words_model.specs.Schedule.{woken_with}
use Rattle.ptk_words_model.specs.Mutex.{wait_of, handed}
use Rattle.ptk_words_model.specs.Unwinding.{is_alive}
use Rattle.ptk_words_sync_invariant.specs.Locks.{is_ready, joiner_of, used_of}
use Rattle.ptk_words_sync_invariant.proofs.Lined.{ready_waits}

-- ---- one thread changed

-- what is the same of the changed thread is the same at every number
pub changed_same : {A : Type 0} (word : Option Thread → A) (t : ℕ) (f : Thread → Thread) (threads : List (Option Thread)) → word (option_map f (pool_get threads t)) ≡ word (pool_get threads t)
    → (u : ℕ) → word (pool_get (pool_changed t f threads) u) ≡ word (pool_get threads u)
changed_same word t f threads here u = elim (cases_eq u t) [
  | inl same ↦ (rw same (ap word (changed_own t f threads) ∙ here))
  | inr ne ↦ ap word (changed_other t u f threads ne)
]

-- the ticks used stay below the interval where the changed thread's do
pub used_changed : (n t : ℕ) (f : Thread → Thread) (threads : List (Option Thread)) → used_of (option_map f (pool_get threads t)) < n → ((u : ℕ) → used_of (pool_get threads u) < n)
    → (u : ℕ) → used_of (pool_get (pool_changed t f threads) u) < n
used_changed n t f threads own each = each_changed (λ (u : ℕ) (o : Option Thread). used_of o < n) t f threads own (λ u ne. each u)

-- ---- a thread that waits

-- it is in use
pub waits_used : (wait : Wait) (o : Option Thread) → wait_of o ≡ Some wait → IsSome o
waits_used wait None e = absurd (let no : ⊥ = cc in no)
waits_used wait (Some thread) e = refl

-- ---- a thread that waits for a mutex

pub awaits_by : (o : Option Thread) → awaited o ≡ mutex_of_wait (wait_of o)
awaits_by None = refl
awaits_by (Some thread) = refl

-- its wait names the mutex
pub awaits_wait : (m : ℕ) (o : Option Thread) → awaited o ≡ Some m → mutex_of_wait (wait_of o) ≡ Some m
awaits_wait m o e = sym (awaits_by o) ∙ e

-- a thread that waits for nothing waits for no mutex
pub idle_awaits : (o : Option Thread) → wait_of o ≡ None → awaited o ≡ None
idle_awaits o e = awaits_by o ∙ ap mutex_of_wait e

-- nor does one that waits for no mutex wait for this one
pub none_awaits : (m : ℕ) (o : Option Thread) → awaited o ≡ None → awaited o ≢ Some m
none_awaits m o e waits = let no : ⊥ = cc in no

pub awaits_not_ready : (m : ℕ) (o : Option Thread) → awaited o ≡ Some m → is_ready o ≡ false
awaits_not_ready m o e = false_from_ne_true (is_ready o) (λ ready. none_awaits m o (idle_awaits o (ready_waits o ready)) e)

pub awaits_alive : (m : ℕ) (o : Option Thread) → (is_alive o ≡ false → wait_of o ≡ None) → awaited o ≡ Some m → is_alive o ≡ true
awaits_alive m o ended e = true_from_ne_false (is_alive o) (λ dead. none_awaits m o (idle_awaits o (ended dead)) e)

-- ---- a thread that begins to wait

-- the thread in this wait (own)
abbrev pub in_wait : Wait → Thread → Thread
in_wait wait thread = record thread { wait = Some wait }

pub in_wait_waits : (wait : Wait) (o : Option Thread) → is_ready o ≡ true → wait_of (option_map (in_wait wait) o) ≡ Some wait
in_wait_waits wait None e = absurd (false≢true e)
in_wait_waits wait (Some thread) e = refl

pub in_wait_joiner : (wait : Wait) (o : Option Thread) → joiner_of (option_map (in_wait wait) o) ≡ joiner_of o
in_wait_joiner wait None = refl
in_wait_joiner wait (Some thread) = refl

pub in_wait_alive : (wait : Wait) (o : Option Thread) → is_alive (option_map (in_wait wait) o) ≡ is_alive o
in_wait_alive wait None = refl
in_wait_alive wait (Some thread) = refl

pub in_wait_used : (wait : Wait) (o : Option Thread) → used_of (option_map (in_wait wait) o) ≡ used_of o
in_wait_used wait None = refl
in_wait_used wait (Some thread) = refl

-- ---- a thread that is woken

-- f wakes a thread: it waits for nothing and has used no tick, and its joiner and its phase stay (own)
pub record IsWaking (f : Thread → Thread) : Type 0 where
  pub wait : (thread : Thread) → (f thread).wait ≡ None
  pub joiner : (thread : Thread) → (f thread).joiner ≡ thread.joiner
  pub phase : (thread : Thread) → (f thread).phase ≡ thread.phase
  pub used : (thread : Thread) → (f thread).used ≡ 0

pub waking_handed : (move : LockMove) → IsWaking (handed move)
waking_handed move = record { wait = λ thread. refl; joiner = λ thread. refl; phase = λ thread. refl; used = λ thread. refl }

pub waking_woken : (values : List ℕ) → IsWaking (woken_with values)
waking_woken values = record { wait = λ thread. refl; joiner = λ thread. refl; phase = λ thread. refl; used = λ thread. refl }

pub waking_waits : (f : Thread → Thread) (o : Option Thread) → IsWaking f → wait_of (option_map f o) ≡ None
waking_waits f None waking = refl
waking_waits f (Some thread) waking = waking.wait thread

pub waking_joiner : (f : Thread → Thread) (o : Option Thread) → IsWaking f → joiner_of (option_map f o) ≡ joiner_of o
waking_joiner f None waking = refl
waking_joiner f (Some thread) waking = waking.joiner thread

pub waking_alive : (f : Thread → Thread) (o : Option Thread) → IsWaking f → is_alive (option_map f o) ≡ is_alive o
waking_alive f None waking = refl
waking_alive f (Some thread) waking = ap (λ phase. not (is_ended phase)) (waking.phase thread)

pub waking_used : (f : Thread → Thread) (o : Option Thread) → IsWaking f → used_of (option_map f o) ≡ 0
waking_used f None waking = refl
waking_used f (Some thread) waking = waking.used thread

pub waking_ready : (f : Thread → Thread) (o : Option Thread) → IsWaking f → is_alive o ≡ true → is_ready (option_map f o) ≡ true
waking_ready f None waking e = absurd (false≢true e)
waking_ready f (Some thread) waking e =
    ap (λ wait. is_none wait && not (is_ended (f thread).phase)) (waking.wait thread) ∙ ap (λ phase. not (is_ended phase)) (waking.phase thread) ∙ e
