-- A thread that waited is woken to the tail of the line.
use Rattle.std.proofs.Common.{◌≡◌, ℕ, true, false, List, [], ◌∷◌, ◌++◌, sym, ◌∙◌, ap, ◌⊎◌, inl, inr}
use Rattle.std.specs.Prelude.{◌≢◌, Option, Some, None}
use Rattle.std.proofs.lemmas.Bool.{cases_eq, false_from_ne_true, true_from_ne_false}
use Rattle.ptk_words.specs.Pools.{pool_get, pool_changed, is_in}
use Rattle.ptk_words.specs.declared.threads.Thread.{Thread}
use Rattle.ptk_words.specs.declared.threads.Wait.{Wait}
use Rattle.ptk_words.proofs.Pools.{changed_own, changed_other}
use Rattle.ptk_words_model.specs.Priority.{awaited}
use Rattle.ptk_words_model.specs.Mutex.{wait_of}
use Rattle.ptk_words_model.specs.Unwinding.{is_alive}
use Rattle.ptk_words_sync_invariant.specs.Locks.{is_ready, joiner_of}
use Rattle.ptk_words_sync_invariant.proofs.Lined.{AreLined, ready_waits, not_ready_out, not_ready_stopped, lined_others, lined_push}
use Rattle.ptk_words_sync_invariant.proofs.Listed.{IsWaitChange}
use Rattle.ptk_words_sync_invariant.proofs.Threads.{changed_same, IsWaking, waking_waits, waking_joiner, waking_alive, waking_ready}
use Rattle.ptk_words_sync_invariant.proofs.Exclusion.{IsAwaitChange}

-- ---- a thread that waits

pub waits_not_ready : (wait : Wait) (o : Option Thread) → wait_of o ≡ Some wait → is_ready o ≡ false
waits_not_ready wait o e = false_from_ne_true (is_ready o) (λ ready. let free : wait_of o ≡ None = ready_waits o ready in let no : ⊥ = cc in no)

pub waits_alive : (wait : Wait) (o : Option Thread) → (is_alive o ≡ false → wait_of o ≡ None) → wait_of o ≡ Some wait → is_alive o ≡ true
waits_alive wait o ended e = true_from_ne_false (is_alive o) (λ dead. let free : wait_of o ≡ None = ended dead in let no : ⊥ = cc in no)

-- ---- it is woken

pub waking_idle : (t : ℕ) (f : Thread → Thread) (threads : List (Option Thread)) → IsWaking f → wait_of (pool_get (pool_changed t f threads) t) ≡ None
waking_idle t f threads waking = ap wait_of (changed_own t f threads) ∙ waking_waits f (pool_get threads t) waking

pub waking_await : (t : ℕ) (f : Thread → Thread) (threads : List (Option Thread)) → IsWaking f → IsAwaitChange t threads (pool_changed t f threads)
waking_await t f threads waking = record {
  awaits = λ u ne. ap awaited (changed_other t u f threads ne);
  alive = changed_same is_alive t f threads (waking_alive f (pool_get threads t) waking);
}

waking_ended : (t : ℕ) (f : Thread → Thread) (threads : List (Option Thread)) (u : ℕ) → (u ≡ t) ⊎ (u ≢ t) → IsWaking f → ((u : ℕ) → is_alive (pool_get threads u) ≡ false → wait_of (pool_get threads u) ≡ None)
    → is_alive (pool_get (pool_changed t f threads) u) ≡ false → wait_of (pool_get (pool_changed t f threads) u) ≡ None
waking_ended t f threads u (inl same) waking ended e = rw same (waking_idle t f threads waking)
waking_ended t f threads u (inr ne) waking ended e = ap wait_of (changed_other t u f threads ne) ∙ ended u (sym (ap is_alive (changed_other t u f threads ne)) ∙ e)

pub waking_change : (t : ℕ) (f : Thread → Thread) (threads : List (Option Thread)) → IsWaking f → ((u : ℕ) → is_alive (pool_get threads u) ≡ false → wait_of (pool_get threads u) ≡ None) → IsWaitChange t threads (pool_changed t f threads)
waking_change t f threads waking ended = record {
  wait = λ u ne. ap wait_of (changed_other t u f threads ne);
  joiner = changed_same joiner_of t f threads (waking_joiner f (pool_get threads t) waking);
  ended = λ u e. waking_ended t f threads u (cases_eq u t) waking ended e;
}

pub lined_woken : (t : ℕ) (f : Thread → Thread) (threads : List (Option Thread)) (line : List ℕ) (running : Option ℕ) → IsWaking f → is_alive (pool_get threads t) ≡ true → is_ready (pool_get threads t) ≡ false
    → AreLined threads line running → AreLined (pool_changed t f threads) (line ++ t ∷ []) running
lined_woken t f threads line running waking alive idle lined =
    let after : List (Option Thread) = pool_changed t f threads in
    let out : is_in t line ≡ false = not_ready_out threads line running t lined idle in
    let stops : running ≢ Some t = not_ready_stopped threads line running t lined idle in
    lined_push t after line running (ap is_ready (changed_own t f threads) ∙ waking_ready f (pool_get threads t) waking alive) out stops
    (lined_others t threads after line running (λ u ne. changed_other t u f threads ne) out stops lined)
