-- The mutexes agree with the threads: what holds of the mutex of each number, and what a change of a thread or of a mutex leaves of it.
use Rattle.std.proofs.Common.{◌≡◌, ℕ, ◌≤◌, true, false, not, List, [], ◌∷◌, ◌++◌, refl, sym, ◌∙◌, ap, subst, inl, inr}
use Rattle.std.specs.Prelude.{◌≢◌, Option, Some, None, option_map, nat_eq}
use Rattle.std.specs.List.{IsDistinct}
use Rattle.std.proofs.lemmas.Bool.{cases_eq, false_from_ne_true}
use Rattle.ptk_words.specs.Pools.{pool_get, pool_set, pool_changed, without, is_in}
use Rattle.ptk_words.specs.declared.TheConstants.{COUNT_LIMIT}
use Rattle.ptk_words.specs.declared.threads.Thread.{Thread}
use Rattle.ptk_words.proofs.Pools.{each_set, each_changed}
use Rattle.ptk_words.proofs.Lists.{in_push, own_push, still_push, without_other, in_without, distinct_push, distinct_without}
use Rattle.ptk_words_model.specs.State.{Mutex}
use Rattle.ptk_words_model.specs.Priority.{awaited, is_owner}
use Rattle.ptk_words_model.specs.Mutex.{waiters_of, count_of, owns, is_free}
use Rattle.ptk_words_model.specs.MutexCalls.{is_locked}
use Rattle.ptk_words_model.specs.Unwinding.{is_alive}
use Rattle.ptk_words_sync_invariant.specs.Locks.{AreMutexes}

-- what holds of the mutex of a number, free or not: its waiters are the threads whose wait names it, none of them twice, its owner has not ended, and its count is not above the limit (pthread_mutex_lock)
pub record IsExclusive (threads : List (Option Thread)) (m : ℕ) (mutex : Option Mutex) : Type 0 where
  pub waiters_wait : (t : ℕ) → is_in t (waiters_of mutex) ≡ true → awaited (pool_get threads t) ≡ Some m
  pub waits_listed : (t : ℕ) → awaited (pool_get threads t) ≡ Some m → is_in t (waiters_of mutex) ≡ true
  pub waiters_distinct : IsDistinct nat_eq (waiters_of mutex)
  pub owners_alive : (t : ℕ) → owns t mutex ≡ true → is_alive (pool_get threads t) ≡ true
  pub count : count_of mutex ≤ COUNT_LIMIT

-- a mutex that is free has no waiters (pthread_mutex_unlock)
abbrev pub IsServed : Option Mutex → Type 0
IsServed mutex = is_locked mutex ≡ false → waiters_of mutex ≡ []

-- ---- each mutex, and all of them

pub exclusive_at : (threads : List (Option Thread)) (mutexes : List (Option Mutex)) → AreMutexes threads mutexes → (m : ℕ) → IsExclusive threads m (pool_get mutexes m)
exclusive_at threads mutexes are m = record {
  waiters_wait = are.waiters_wait m;
  waits_listed = are.waits_listed m;
  waiters_distinct = are.waiters_distinct m;
  owners_alive = are.owners_alive m;
  count = are.counts m;
}

pub mutexes_from : (threads : List (Option Thread)) (mutexes : List (Option Mutex)) → ((m : ℕ) → IsExclusive threads m (pool_get mutexes m)) → ((m : ℕ) → IsServed (pool_get mutexes m)) → AreMutexes threads mutexes
mutexes_from threads mutexes each served = record {
  waiters_wait = λ m. (each m).waiters_wait;
  waits_listed = λ m. (each m).waits_listed;
  waiters_distinct = λ m. (each m).waiters_distinct;
  owners_alive = λ m. (each m).owners_alive;
  free_unwaited = served;
  counts = λ m. (each m).count;
}

-- ---- the threads changed, no wait for a mutex begun or ended

-- owners have not ended
pub exclusion_kept : (before after : List (Option Thread)) (mutexes : List (Option Mutex)) → ((t : ℕ) → awaited (pool_get after t) ≡ awaited (pool_get before t))
    → ((m t : ℕ) → owns t (pool_get mutexes m) ≡ true → is_alive (pool_get after t) ≡ true) → AreMutexes before mutexes → AreMutexes after mutexes
exclusion_kept before after mutexes waits alive are = record {
  waiters_wait = λ m t e. waits t ∙ are.waiters_wait m t e;
  waits_listed = λ m t e. are.waits_listed m t (sym (waits t) ∙ e);
  waiters_distinct = are.waiters_distinct;
  owners_alive = alive;
  free_unwaited = are.free_unwaited;
  counts = are.counts;
}

-- no thread has ended
pub exclusion_same : (before after : List (Option Thread)) (mutexes : List (Option Mutex)) → ((t : ℕ) → awaited (pool_get after t) ≡ awaited (pool_get before t))
    → ((t : ℕ) → is_alive (pool_get after t) ≡ is_alive (pool_get before t)) → AreMutexes before mutexes → AreMutexes after mutexes
exclusion_same before after mutexes waits alive are = exclusion_kept before after mutexes waits (λ m t e. alive t ∙ are.owners_alive m t e) are

-- ---- a thread that begins or ends a wait for a mutex

-- one thread waits for another mutex or for none, the others as before, and none has ended since (own)
pub record IsAwaitChange (t : ℕ) (before after : List (Option Thread)) : Type 0 where
  pub awaits : (u : ℕ) → u ≢ t → awaited (pool_get after u) ≡ awaited (pool_get before u)
  pub alive : (u : ℕ) → is_alive (pool_get after u) ≡ is_alive (pool_get before u)

-- a mutex that it waits for neither before nor after
pub exclusive_beside : (t n : ℕ) (before after : List (Option Thread)) (mutex : Option Mutex) → IsAwaitChange t before after → awaited (pool_get before t) ≢ Some n → awaited (pool_get after t) ≢ Some n
    → IsExclusive before n mutex → IsExclusive after n mutex
exclusive_beside t n before after mutex change idle free was = record {
  waiters_wait = λ u e.
      let old : awaited (pool_get before u) ≡ Some n = was.waiters_wait u e in
      let ne : u ≢ t = λ same. idle (ap (λ v. awaited (pool_get before v)) (sym same) ∙ old) in
      change.awaits u ne ∙ old;
  waits_listed = λ u e.
      let ne : u ≢ t = λ same. free (ap (λ v. awaited (pool_get after v)) (sym same) ∙ e) in
      was.waits_listed u (sym (change.awaits u ne) ∙ e);
  waiters_distinct = was.waiters_distinct;
  owners_alive = λ u e. change.alive u ∙ was.owners_alive u e;
  count = was.count;
}

-- the mutex with one more waiter (own)
abbrev pub joined_by : ℕ → Mutex → Mutex
joined_by t mutex = record mutex { waiters = mutex.waiters ++ t ∷ [] }

-- the mutex that it begins to wait for, as the last waiter
pub exclusive_joined : (t m : ℕ) (before after : List (Option Thread)) (mutex : Mutex) → IsAwaitChange t before after → awaited (pool_get before t) ≢ Some m → awaited (pool_get after t) ≡ Some m
    → IsExclusive before m (Some mutex) → IsExclusive after m (Some (joined_by t mutex))
exclusive_joined t m before after mutex change idle waits was =
    let out : is_in t mutex.waiters ≡ false = false_from_ne_true (is_in t mutex.waiters) (λ e. idle (was.waiters_wait t e)) in
    record {
      waiters_wait = λ u e. elim (in_push t u mutex.waiters e) [
        | inl same ↦ ap (λ v. awaited (pool_get after v)) same ∙ waits
        | inr here ↦
            (let old : awaited (pool_get before u) ≡ Some m = was.waiters_wait u here in
            let ne : u ≢ t = λ same. idle (ap (λ v. awaited (pool_get before v)) (sym same) ∙ old) in
            change.awaits u ne ∙ old)
      ];
      waits_listed = λ u e. elim (cases_eq u t) [
        | inl same ↦ ap (λ v. is_in v (mutex.waiters ++ t ∷ [])) same ∙ own_push t mutex.waiters
        | inr ne ↦ still_push t u mutex.waiters (was.waits_listed u (sym (change.awaits u ne) ∙ e))
      ];
      waiters_distinct = distinct_push t mutex.waiters was.waiters_distinct out;
      owners_alive = λ u e. change.alive u ∙ was.owners_alive u e;
      count = was.count;
    }

-- the mutex without a waiter (own)
abbrev pub left_by : ℕ → Mutex → Mutex
left_by t mutex = record mutex { waiters = without t mutex.waiters }

-- the mutex that it no longer waits for
exclusive_left_of : (t m : ℕ) (before after : List (Option Thread)) (mutex : Mutex) → IsAwaitChange t before after → awaited (pool_get after t) ≢ Some m
    → IsExclusive before m (Some mutex) → IsExclusive after m (Some (left_by t mutex))
exclusive_left_of t m before after mutex change free was = record {
  waiters_wait = λ u e. let still = in_without t u mutex.waiters e in change.awaits u still.0 ∙ was.waiters_wait u still.1;
  waits_listed = λ u e.
      let ne : u ≢ t = λ same. free (ap (λ v. awaited (pool_get after v)) (sym same) ∙ e) in
      without_other t u mutex.waiters ne ∙ was.waits_listed u (sym (change.awaits u ne) ∙ e);
  waiters_distinct = distinct_without t mutex.waiters was.waiters_distinct;
  owners_alive = λ u e. change.alive u ∙ was.owners_alive u e;
  count = was.count;
}

pub exclusive_left : (t m : ℕ) (before after : List (Option Thread)) (mutex : Option Mutex) → IsAwaitChange t before after → awaited (pool_get before t) ≡ Some m → awaited (pool_get after t) ≢ Some m
    → IsExclusive before m mutex → IsExclusive after m (option_map (left_by t) mutex)
exclusive_left t m before after None change waited free was = absurd (let here : is_in t [] ≡ true = was.waits_listed t waited in let no : ⊥ = cc in no)
exclusive_left t m before after (Some mutex) change waited free was = exclusive_left_of t m before after mutex change free was

pub served_left : (t : ℕ) (mutex : Option Mutex) → IsServed mutex → IsServed (option_map (left_by t) mutex)
served_left t None served = served
served_left t (Some mutex) served = λ e. ap (without t) (served e)

-- ---- one mutex changed, with the waiters that it had

pub exclusive_owned : (threads : List (Option Thread)) (m : ℕ) (was now : Option Mutex) → waiters_of now ≡ waiters_of was → ((t : ℕ) → owns t now ≡ true → is_alive (pool_get threads t) ≡ true) → count_of now ≤ COUNT_LIMIT
    → IsExclusive threads m was → IsExclusive threads m now
exclusive_owned threads m was now same alive le is_well = record {
  waiters_wait = λ t e. is_well.waiters_wait t (ap (is_in t) (sym same) ∙ e);
  waits_listed = λ t e. ap (is_in t) same ∙ is_well.waits_listed t e;
  waiters_distinct = subst (IsDistinct nat_eq) (sym same) is_well.waiters_distinct;
  owners_alive = alive;
  count = le;
}

-- the owner and the waiters are the same, and the count is not above the limit (own)
pub record IsMild (before after : Mutex) : Type 0 where
  pub owner : after.owner ≡ before.owner
  pub waiters : after.waiters ≡ before.waiters
  pub count : after.count ≤ COUNT_LIMIT

pub exclusive_mild : (threads : List (Option Thread)) (m : ℕ) (f : Mutex → Mutex) (mutex : Option Mutex) → ((x : Mutex) → mutex ≡ Some x → IsMild x (f x)) → IsExclusive threads m mutex → IsExclusive threads m (option_map f mutex)
exclusive_mild threads m f None mild was = was
exclusive_mild threads m f (Some x) mild was =
    let kept : IsMild x (f x) = mild x refl in
    exclusive_owned threads m (Some x) (Some (f x)) kept.waiters (λ t e. was.owners_alive t (ap (is_owner t) (sym kept.owner) ∙ e)) kept.count was

pub served_mild : (f : Mutex → Mutex) (mutex : Option Mutex) → ((x : Mutex) → mutex ≡ Some x → IsMild x (f x)) → IsServed mutex → IsServed (option_map f mutex)
served_mild f None mild served = served
served_mild f (Some x) mild served = λ e. let kept : IsMild x (f x) = mild x refl in kept.waiters ∙ served (ap (λ owner. not (is_free owner)) (sym kept.owner) ∙ e)

-- ---- one mutex of the pool

-- the mutex of a number changed by f
pub exclusion_changed : (threads : List (Option Thread)) (mutexes : List (Option Mutex)) (m : ℕ) (f : Mutex → Mutex) → IsExclusive threads m (option_map f (pool_get mutexes m)) → IsServed (option_map f (pool_get mutexes m))
    → AreMutexes threads mutexes → AreMutexes threads (pool_changed m f mutexes)
exclusion_changed threads mutexes m f own served are =
    mutexes_from threads (pool_changed m f mutexes)
    (each_changed (λ (n : ℕ) (mutex : Option Mutex). IsExclusive threads n mutex) m f mutexes own (λ n ne. exclusive_at threads mutexes are n))
    (each_changed (λ (n : ℕ) (mutex : Option Mutex). IsServed mutex) m f mutexes served (λ n ne. are.free_unwaited n))

-- the mutex of a number set
pub exclusion_set : (threads : List (Option Thread)) (mutexes : List (Option Mutex)) (m : ℕ) (mutex : Option Mutex) → IsExclusive threads m mutex → IsServed mutex → AreMutexes threads mutexes → AreMutexes threads (pool_set mutexes m mutex)
exclusion_set threads mutexes m mutex own served are =
    mutexes_from threads (pool_set mutexes m mutex)
    (each_set (λ (n : ℕ) (o : Option Mutex). IsExclusive threads n o) m mutex mutexes own (exclusive_at threads mutexes are))
    (each_set (λ (n : ℕ) (o : Option Mutex). IsServed o) m mutex mutexes served are.free_unwaited)
