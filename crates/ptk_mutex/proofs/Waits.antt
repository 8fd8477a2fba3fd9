-- A thread that begins to wait: the rise from the owner on gives the effective priorities.
use Rattle.std.proofs.Common.{◌≡◌, ◌≢◌, ℕ, false, List, length, map, fold, max, refl, sym, ◌∙◌, ap, arith, subst, ◌⊎◌, inl, inr}
use Rattle.std.specs.Prelude.{nat_eq, Option, Some, None, option_map, option_and_then}
use Rattle.std.proofs.lemmas.Bool.{cases_eq, eqb-true, eq-eqb}
use Rattle.ptk_words.specs.Pools.{pool_get, pool_changed, numbers_to}
use Rattle.ptk_words.specs.declared.threads.Thread.{Thread}
use Rattle.ptk_words.proofs.Pools.{changed_own, changed_other, length-changed}
use Rattle.ptk_words_model.specs.State.{Mutex}
use Rattle.ptk_words_model.specs.Chain.{greatest_leading}
use Rattle.ptk_words_model.specs.Priority.{awaited, inheritor_of, ceiling_for, next_in_chain, held_of, effective_priorities}
use Rattle.ptk_words_sync_invariant.proofs.Threads.{changed_same}
use Rattle.ptk_words_sync_invariant.proofs.Raising.{level_of}
use Rattle.ptk_threads.specs.Table.{stored_of}
use Rattle.ptk_roster.specs.Raised.{risen}
use Rattle.ptk_mutex.specs.Visits.{reads, IsVisited}
use Rattle.ptk_mutex.specs.Before.{awake, IsBeforeWait}
use Rattle.ptk_words_sync_invariant.proofs.ChainLaws.{false_true, IsNumber, IsBounded, next_bounded}
use Rattle.ptk_roster.proofs.Risen.{IsWithin}
use Rattle.ptk_mutex.proofs.Joins.{IsJoin, IsPassed, priorities, length-priorities, stored_as, join-is}
use Rattle.ptk_mutex.proofs.Visits.{visits}

-- ---- the thread before it waited

awake_level : (x : Option Thread) → level_of (option_map awake x) ≡ level_of x
awake_level None = refl
awake_level (Some thread) = refl

awake_awaits : (x : Option Thread) → awaited (option_map awake x) ≡ None
awake_awaits None = refl
awake_awaits (Some thread) = refl

next_own : (t : ℕ) (threads : List (Option Thread)) (mutexes : List (Option Mutex)) → next_in_chain (pool_changed t awake threads) mutexes t ≡ None
next_own t threads mutexes = ap (option_and_then (λ m. inheritor_of (pool_get mutexes m))) (ap awaited (changed_own t awake threads) ∙ awake_awaits (pool_get threads t))

next_other : (t w : ℕ) (threads : List (Option Thread)) (mutexes : List (Option Mutex)) → w ≢ t → next_in_chain (pool_changed t awake threads) mutexes w ≡ next_in_chain threads mutexes w
next_other t w threads mutexes ne = ap (λ x. option_and_then (λ m. inheritor_of (pool_get mutexes m)) (awaited x)) (changed_other t w awake threads ne)

held_awake : (t : ℕ) (threads : List (Option Thread)) (mutexes : List (Option Mutex)) → held_of (pool_changed t awake threads) mutexes ≡ held_of threads mutexes
held_awake t threads mutexes =
    let levels : (u : ℕ) → level_of (pool_get (pool_changed t awake threads) u) ≡ level_of (pool_get threads u) = changed_same level_of t awake threads (awake_level (pool_get threads t)) in
    λ i u. fold (λ most m. max most (ceiling_for u m)) (levels u i) mutexes

before-is : (t : ℕ) (threads : List (Option Thread)) (mutexes : List (Option Mutex)) → effective_priorities (pool_changed t awake threads) mutexes ≡ priorities (length threads) (next_in_chain (pool_changed t awake threads) mutexes) (held_of threads mutexes)
before-is t threads mutexes =
    let long : length (pool_changed t awake threads) ≡ length threads = length-changed t awake threads in
    let held : held_of (pool_changed t awake threads) mutexes ≡ held_of threads mutexes = held_awake t threads mutexes in
    λ i. map (greatest_leading (long i) (next_in_chain (pool_changed t awake threads) mutexes) (held i)) (numbers_to (long i))

bounded_before : (t : ℕ) (threads : List (Option Thread)) (mutexes : List (Option Mutex)) → IsBounded (length threads) (next_in_chain (pool_changed t awake threads) mutexes)
bounded_before t threads mutexes = subst (λ n. IsBounded n (next_in_chain (pool_changed t awake threads) mutexes)) (length-changed t awake threads) (next_bounded (pool_changed t awake threads) mutexes)

pub length-before : (t : ℕ) (threads : List (Option Thread)) (mutexes : List (Option Mutex)) (stored : List ℕ) → IsBeforeWait t threads mutexes stored → length stored ≡ length threads
length-before t threads mutexes stored e = ap length (e ∙ before-is t threads mutexes) ∙ length-priorities (length threads) (next_in_chain (pool_changed t awake threads) mutexes) (held_of threads mutexes)

-- ---- the mutex is INHERIT, and has an owner

differ : (w t : ℕ) → nat_eq w t ≡ false → w ≢ t
differ w t e = λ same. false_true (sym e ∙ eq-eqb w t same)

joins : (t o : ℕ) (threads : List (Option Thread)) (mutexes : List (Option Mutex)) → next_in_chain threads mutexes t ≡ Some o → IsJoin (next_in_chain (pool_changed t awake threads) mutexes) (next_in_chain threads mutexes) (λ w. nat_eq w t) o
joins t o threads mutexes e = record {
  free = λ w j. ap (next_in_chain (pool_changed t awake threads) mutexes) (eqb-true w t j) ∙ next_own t threads mutexes;
  waits = λ w j. ap (next_in_chain threads mutexes) (eqb-true w t j) ∙ e;
  others = λ w j. sym (next_other t w threads mutexes (differ w t j));
}

passes : (t h : ℕ) (before : ℕ → ℕ) → h ≡ before t → IsPassed (λ w. nat_eq w t) before h
passes t h before e = record {
  least = λ w j. let same : before w ≡ before t = ap before (eqb-true w t j) in omega (arith, same, e);
  reached = inr (t, eq-eqb t t refl, sym e);
}

pub wait_rises : (t o h : ℕ) (threads : List (Option Thread)) (mutexes : List (Option Mutex)) (stored new : List ℕ) → IsBeforeWait t threads mutexes stored → next_in_chain threads mutexes t ≡ Some o → h ≡ stored_of stored t
    → new ≡ risen (next_in_chain threads mutexes) h (length threads) o stored → new ≡ effective_priorities threads mutexes
wait_rises t o h threads mutexes stored new before waits passed e =
    let size : ℕ = length threads in
    let next : ℕ → Option ℕ = next_in_chain (pool_changed t awake threads) mutexes in
    let rank : ℕ → ℕ = held_of threads mutexes in
    let was : stored ≡ priorities size next rank = before ∙ before-is t threads mutexes in
    let number : IsNumber size t = (next_bounded threads mutexes).each t o waits in
    let height : h ≡ greatest_leading size next rank t = passed ∙ ap (λ s. stored_of s t) was ∙ stored_as size next rank t number in
    e ∙ ap (λ s. risen (next_in_chain threads mutexes) h size o s) was
    ∙ join-is size next (next_in_chain threads mutexes) rank (λ w. nat_eq w t) o h (bounded_before t threads mutexes) (next_bounded threads mutexes) (joins t o threads mutexes waits)
    (passes t h (greatest_leading size next rank) height)

-- ---- the mutex passes nothing on

next_cases : (t w : ℕ) (threads : List (Option Thread)) (mutexes : List (Option Mutex)) → next_in_chain threads mutexes t ≡ None → (w ≡ t) ⊎ (w ≢ t) → next_in_chain (pool_changed t awake threads) mutexes w ≡ next_in_chain threads mutexes w
next_cases t w threads mutexes e (inl same) = ap (next_in_chain (pool_changed t awake threads) mutexes) same ∙ next_own t threads mutexes ∙ sym e ∙ ap (next_in_chain threads mutexes) (sym same)
next_cases t w threads mutexes e (inr ne) = next_other t w threads mutexes ne

pub wait_stays : (t : ℕ) (threads : List (Option Thread)) (mutexes : List (Option Mutex)) (stored : List ℕ) → IsBeforeWait t threads mutexes stored → next_in_chain threads mutexes t ≡ None → stored ≡ effective_priorities threads mutexes
wait_stays t threads mutexes stored before e =
    let next : next_in_chain (pool_changed t awake threads) mutexes ≡ next_in_chain threads mutexes = λ i w. next_cases t w threads mutexes e (cases_eq w t) i in
    before ∙ before-is t threads mutexes ∙ ap (λ f. priorities (length threads) f (held_of threads mutexes)) next

-- ---- what is read

-- only threads of the pool lead on
pub within : (threads : List (Option Thread)) (mutexes : List (Option Mutex)) (stored : List ℕ) → length stored ≡ length threads → IsWithin (next_in_chain threads mutexes) stored
within threads mutexes stored long = record { each = λ w v e. let n : IsNumber (length threads) w = (next_bounded threads mutexes).each w v e in (n.0, omega (arith, n.1, long)) }

pub rise_visited : (threads : List (Option Thread)) (mutexes : List (Option Mutex)) (u h visited : ℕ) (stored new : List ℕ) → length stored ≡ length threads
    → new ≡ risen (next_in_chain threads mutexes) h (length threads) u stored → visited ≡ reads (next_in_chain threads mutexes) h (length threads) u stored → IsVisited visited stored new
rise_visited threads mutexes u h visited stored new long e r = rw (e, r) (visits (next_in_chain threads mutexes) h (length threads) u stored (within threads mutexes stored long))

pub wait_visited : (t u h visited : ℕ) (threads : List (Option Thread)) (mutexes : List (Option Mutex)) (stored new : List ℕ) → IsBeforeWait t threads mutexes stored
    → new ≡ risen (next_in_chain threads mutexes) h (length threads) u stored → visited ≡ reads (next_in_chain threads mutexes) h (length threads) u stored → IsVisited visited stored new
wait_visited t u h visited threads mutexes stored new before e r = rise_visited threads mutexes u h visited stored new (length-before t threads mutexes stored before) e r
