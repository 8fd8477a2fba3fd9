-- What a thread's end and its detachment leave at its number.
use Rattle.std.proofs.Common.{◌≡◌, ℕ, Bool, true, false, ◌||◌, List, [], ◌∷◌, refl, sym, ◌∙◌, ap, inl, inr}
use Rattle.std.specs.Prelude.{Option, Some, None, option_and_then, if◌then◌else◌}
use Rattle.std.proofs.lemmas.Bool.{cases_eq}
use Rattle.ptk_words.specs.Pools.{pool_get, pool_set, pool_changed}
use Rattle.ptk_words.specs.Threads.{is_taken, is_ended, left_at_end, left_at_detach}
use Rattle.ptk_words.specs.declared.threads.Thread.{Thread}
use Rattle.ptk_words.specs.declared.threads.Phase.TheVariants.{Ended}
use Rattle.ptk_words.proofs.Pools.{changed_own, changed_other}
use Rattle.ptk_words_model.specs.declared.Invocation.{Invocation}
use Rattle.ptk_words_model.specs.declared.Runner.{Runner}
use Rattle.ptk_words_model.specs.State.{Locks, Part, with_locks}
use Rattle.ptk_words_model.specs.Priority.{thread_at}
use Rattle.ptk_words_model.specs.Schedule.{with_thread, woken_with}
use Rattle.ptk_words_model.specs.Decision.{runner_at}
use Rattle.ptk_words_model.specs.Calls.{success}
use Rattle.ptk_words_model.specs.ThreadCalls.{detach}
use Rattle.ptk_words_model.specs.Unwinding.{after_join_by, after_release, without_thread}
use Rattle.ptk_gate_moves.specs.Moves.{with_left}

if_over : {A B : Type 0} (b : Bool) (x y : A) (f : A → B) → f (if b then x else y) ≡ (if b then f x else f y)
if_over true x y f = refl
if_over false x y f = refl

or_true : (b : Bool) → (b || true) ≡ true
or_true true = refl
or_true false = refl

-- ---- a thread's end

-- a thread that is detached or has a joiner leaves nothing, also after a wake, which takes neither
nothing_left : (t u : ℕ) (values : List ℕ) (thread : Thread) (threads : List (Option Thread)) → pool_get threads t ≡ Some thread → is_taken thread ≡ true
    → option_and_then left_at_end (pool_get (pool_changed u (woken_with values) threads) t) ≡ None
nothing_left t u values thread threads e taken =
    elim (cases_eq t u) [
      | inl same ↦ rw (← same) (rw (changed_own t (woken_with values) threads, e, taken) refl)
      | inr differ ↦ rw (changed_other u t (woken_with values) threads differ, e, taken) refl
    ]

released_by : (t : ℕ) (joiner : Option ℕ) (thread : Thread) (locks : Locks) → thread.joiner ≡ joiner → thread_at locks t ≡ Some thread
    → with_left t left_at_end (after_join_by joiner thread.result locks)
    ≡ (if is_taken thread then without_thread t (after_join_by joiner thread.result locks) else with_thread t (λ th. record th { phase = Ended }) locks)
released_by t None thread locks j e =
    rw e (if_over (is_taken thread) None (Some (record thread { phase = Ended })) (λ (o : Option Thread). record locks { threads = pool_set locks.threads t o }))
released_by t (Some u) thread locks j e =
    let taken : is_taken thread ≡ true = rw j (or_true thread.is_detached) in
    rw (nothing_left t u (0 ∷ thread.result ∷ []) thread locks.threads e taken, taken) refl

-- the joiner told, then what the end leaves
pub released_is : (t : ℕ) (thread : Thread) (locks : Locks) → thread_at locks t ≡ Some thread
    → with_left t left_at_end (after_join_by thread.joiner thread.result locks) ≡ after_release t (Some thread) locks
released_is t thread locks e = released_by t thread.joiner thread locks refl e

-- ---- call 13

detached_at : (o : Option Thread) (i : Invocation) (s : Part) (target : Runner) → thread_at s.locks i.a0 ≡ o → runner_at i.a0 o ≡ Some target → is_taken target.thread ≡ false
    → success [] i (with_locks (with_left target.number left_at_detach) s) ≡ detach i s
detached_at None i s target e named taken = absurd (let no : ⊥ = cc in no)
detached_at (Some thread) i s target e named taken =
    let target_is : target ≡ record { number = i.a0; thread = thread } = cc in
    let free : is_taken thread ≡ false = ap (λ (r : Runner). is_taken r.thread) (sym target_is) ∙ taken in
    rw (target_is, e, free)
    (if_over (is_ended thread.phase) None (Some (record thread { is_detached = true })) (λ (o : Option Thread). success [] i (with_locks (λ locks. record locks { threads = pool_set locks.threads i.a0 o }) s)))

-- the detachment of a thread in use that is neither detached nor being joined
pub detached_is : (i : Invocation) (s : Part) (thread : Thread) → thread_at s.locks i.a0 ≡ Some thread → is_taken thread ≡ false
    → success [] i (with_locks (with_left i.a0 left_at_detach) s) ≡ detach i s
detached_is i s thread e free = detached_at (Some thread) i s (record { number = i.a0; thread = thread }) e refl free
