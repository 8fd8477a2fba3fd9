-- A thread that begins a wait.
use Rattle.std.proofs.Common.{◌≡◌, ℕ, ◌<◌, true, false, List, refl, sym, ◌∙◌, ap}
use Rattle.std.specs.Prelude.{◌≢◌, Option, Some, None, option_map}
use Rattle.std.proofs.lemmas.Bool.{false≢true, true≢false}
use Rattle.std.proofs.lemmas.Option.{none-some}
use Rattle.ptk_words.specs.Pools.{pool_get, pool_changed}
use Rattle.ptk_words.specs.declared.threads.Thread.{Thread}
use Rattle.ptk_words.specs.declared.threads.Wait.{Wait}
use Rattle.ptk_words.proofs.Pools.{each_changed, changed_own, changed_other}
use Rattle.ptk_words.proofs.Options.{one_value}
use Rattle.ptk_words_model.specs.State.{Mutex}
use Rattle.ptk_words_model.specs.Priority.{awaited}
use Rattle.ptk_words.specs.Threads.{mutex_of_wait}
use Rattle.ptk_words_model.specs.Mutex.{wait_of}
use Rattle.ptk_words_model.specs.MutexCalls.{is_locked}
use Rattle.ptk_words_model.specs.Unwinding.{is_alive}
use Rattle.ptk_words_sync_invariant.specs.Locks.{joiner_of, used_of, AreMutexes}
use Rattle.ptk_words_sync_invariant.proofs.Lined.{AreLined, lined_stopped, lined_others}
use Rattle.ptk_words_sync_invariant.proofs.Listed.{IsWaitChange}
use Rattle.ptk_words_sync_invariant.proofs.Threads.{changed_same, used_changed, none_awaits, in_wait, in_wait_joiner, in_wait_alive, in_wait_used}
use Rattle.ptk_words_sync_invariant.proofs.Exclusion.{IsExclusive, IsServed, IsAwaitChange, exclusive_at, exclusive_beside, exclusive_joined, mutexes_from, joined_by}

-- ---- the threads

pub alive_awaits : (wait : Wait) (o : Option Thread) → is_alive o ≡ true → awaited (option_map (in_wait wait) o) ≡ mutex_of_wait (Some wait)
alive_awaits wait None e = absurd (false≢true e)
alive_awaits wait (Some thread) e = refl

pub alive_waits : (wait : Wait) (o : Option Thread) → is_alive o ≡ true → wait_of (option_map (in_wait wait) o) ≡ Some wait
alive_waits wait None e = absurd (false≢true e)
alive_waits wait (Some thread) e = refl

pub blocks_waits : (t : ℕ) (wait : Wait) (threads : List (Option Thread)) → is_alive (pool_get threads t) ≡ true → wait_of (pool_get (pool_changed t (in_wait wait) threads) t) ≡ Some wait
blocks_waits t wait threads alive = ap wait_of (changed_own t (in_wait wait) threads) ∙ alive_waits wait (pool_get threads t) alive

pub blocks_awaits : (t : ℕ) (wait : Wait) (threads : List (Option Thread)) → is_alive (pool_get threads t) ≡ true → awaited (pool_get (pool_changed t (in_wait wait) threads) t) ≡ mutex_of_wait (Some wait)
blocks_awaits t wait threads alive = ap awaited (changed_own t (in_wait wait) threads) ∙ alive_awaits wait (pool_get threads t) alive

pub wait_change : (t : ℕ) (wait : Wait) (threads : List (Option Thread)) → is_alive (pool_get threads t) ≡ true → ((u : ℕ) → is_alive (pool_get threads u) ≡ false → wait_of (pool_get threads u) ≡ None)
    → IsWaitChange t threads (pool_changed t (in_wait wait) threads)
wait_change t wait threads alive ended =
    let same : (u : ℕ) → is_alive (pool_get (pool_changed t (in_wait wait) threads) u) ≡ is_alive (pool_get threads u) = changed_same is_alive t (in_wait wait) threads (in_wait_alive wait (pool_get threads t)) in
    record {
      wait = λ u ne. ap wait_of (changed_other t u (in_wait wait) threads ne);
      joiner = changed_same joiner_of t (in_wait wait) threads (in_wait_joiner wait (pool_get threads t));
      ended = λ u e.
          let dead : is_alive (pool_get threads u) ≡ false = sym (same u) ∙ e in
          let ne : u ≢ t = λ one. false≢true (sym dead ∙ ap (λ v. is_alive (pool_get threads v)) one ∙ alive) in
          ap wait_of (changed_other t u (in_wait wait) threads ne) ∙ ended u dead;
    }

pub await_change : (t : ℕ) (wait : Wait) (threads : List (Option Thread)) → IsAwaitChange t threads (pool_changed t (in_wait wait) threads)
await_change t wait threads = record {
  awaits = λ u ne. ap awaited (changed_other t u (in_wait wait) threads ne);
  alive = changed_same is_alive t (in_wait wait) threads (in_wait_alive wait (pool_get threads t));
}

pub used_blocked : (n t : ℕ) (wait : Wait) (threads : List (Option Thread)) → ((u : ℕ) → used_of (pool_get threads u) < n) → (u : ℕ) → used_of (pool_get (pool_changed t (in_wait wait) threads) u) < n
used_blocked n t wait threads each = used_changed n t (in_wait wait) threads (rw (in_wait_used wait (pool_get threads t)) (each t)) each

-- ---- the line

pub lined_blocked : (t : ℕ) (wait : Wait) (threads : List (Option Thread)) (line : List ℕ) → AreLined threads line (Some t) → AreLined (pool_changed t (in_wait wait) threads) line None
lined_blocked t wait threads line lined =
    lined_others t threads (pool_changed t (in_wait wait) threads) line None (λ u ne. changed_other t u (in_wait wait) threads ne) (lined.running_out t refl) (none-some t) (lined_stopped threads line (Some t) lined)

-- ---- the mutexes

joined_mutex : (t m : ℕ) (before after : List (Option Thread)) (mutex : Option Mutex) → is_locked mutex ≡ true → IsAwaitChange t before after → awaited (pool_get before t) ≢ Some m → awaited (pool_get after t) ≡ Some m
    → IsExclusive before m mutex → IsExclusive after m (option_map (joined_by t) mutex)
joined_mutex t m before after None locked change idle waits was = absurd (false≢true locked)
joined_mutex t m before after (Some x) locked change idle waits was = exclusive_joined t m before after x change idle waits was

served_joined : (t : ℕ) (mutex : Option Mutex) → is_locked mutex ≡ true → IsServed (option_map (joined_by t) mutex)
served_joined t None locked = λ e. refl
served_joined t (Some x) locked = λ e. absurd (true≢false (sym locked ∙ e))

-- a thread that waits for no mutex begins to wait for one that is locked, as its last waiter
pub exclusion_joined : (t m : ℕ) (wait : Wait) (threads : List (Option Thread)) (mutexes : List (Option Mutex)) → is_alive (pool_get threads t) ≡ true → awaited (pool_get threads t) ≡ None → mutex_of_wait (Some wait) ≡ Some m
    → is_locked (pool_get mutexes m) ≡ true → AreMutexes threads mutexes → AreMutexes (pool_changed t (in_wait wait) threads) (pool_changed m (joined_by t) mutexes)
exclusion_joined t m wait threads mutexes alive idle names locked are =
    let after : List (Option Thread) = pool_changed t (in_wait wait) threads in
    let waits : awaited (pool_get after t) ≡ Some m = blocks_awaits t wait threads alive ∙ names in
    let change : IsAwaitChange t threads after = await_change t wait threads in
    let was : (n : ℕ) → IsExclusive threads n (pool_get mutexes n) = exclusive_at threads mutexes are in
    mutexes_from after (pool_changed m (joined_by t) mutexes)
    (each_changed (λ (n : ℕ) (mutex : Option Mutex). IsExclusive after n mutex) m (joined_by t) mutexes
    (joined_mutex t m threads after (pool_get mutexes m) locked change (none_awaits m (pool_get threads t) idle) waits (was m))
    (λ n ne. exclusive_beside t n threads after (pool_get mutexes n) change (none_awaits n (pool_get threads t) idle) (λ e. ne (one_value n m (awaited (pool_get after t)) e waits)) (was n)))
    (each_changed (λ (n : ℕ) (mutex : Option Mutex). IsServed mutex) m (joined_by t) mutexes (served_joined t (pool_get mutexes m) locked) (λ n ne. are.free_unwaited n))
